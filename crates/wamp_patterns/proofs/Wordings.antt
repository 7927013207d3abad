-- Both wordings of the order of two wildcards that match one URI: the first component that only one of them names, and the first
-- run of named components that is longer.
use Rattle.std.proofs.Common.{◌≡◌, ℕ, suc, Bool, true, false, cond, ◌&&◌, List, [], ◌∷◌, length, map, refl, ap, sym, ◌∙◌, arith}
use Rattle.std.specs.declared.cmp.Ordering.TheVariants.{Less, Greater}
use Rattle.std.specs.List.{onto_first, slice_split}
use Rattle.std.specs.Ordering.{is_lt, is_gt, bool_cmp, nat_cmp, ordering_then}
use Rattle.std.specs.Cmp.Lexicographic.{pointwise, slice_cmp}
use Rattle.std.proofs.lemmas.Bool.Decides.{nat_tests}
use Rattle.wamp_ids.specs.declared.policy.Match.TheVariants.{Wildcard}
use Rattle.wamp_ids.specs.Uri.{parts, is_empty}
use Rattle.wamp_patterns.specs.Matching.{part_matches, text_matches}
use Rattle.wamp_patterns.specs.Ranking.{has_longer_run, is_named_first}

one_more : (m n : ℕ) → nat_cmp (suc m) (suc n) ≡ nat_cmp m n
one_more m n = grind (arith, nat_tests)

some_above : (m : ℕ) → nat_cmp (suc m) 0 ≡ Greater
some_above m = grind (arith, nat_tests)

none_below : (n : ℕ) → nat_cmp 0 (suc n) ≡ Less
none_below n = grind (arith, nat_tests)

abbrev runs : List (List ℕ) → List ℕ
runs ps = map length (slice_split is_empty ps)

-- there is always a first run
first_run : (ps : List (List ℕ)) → (n : ℕ) × (ns : List ℕ) × (runs ps ≡ n ∷ ns)
first_run [] = (0, [], refl)
first_run (p ∷ ps) = go (is_empty p) (slice_split is_empty ps)
  where
    go : (b : Bool) (rs : List (List (List ℕ))) → (n : ℕ) × (ns : List ℕ) × (map length (cond b ([] ∷ rs) (onto_first p rs)) ≡ n ∷ ns)
    go true rs = (0, map length rs, refl)
    go false [] = (1, [], refl)
    go false (r ∷ rs) = (suc (length r), map length rs, refl)

-- a named component makes the first run longer by one
longer : (p : List ℕ) (ps : List (List ℕ)) (n : ℕ) (ns : List ℕ) → is_empty p ≡ false → runs ps ≡ n ∷ ns → runs (p ∷ ps) ≡ suc n ∷ ns
longer p ps n ns e h = ap (λ b. map length (cond b ([] ∷ slice_split is_empty ps) (onto_first p (slice_split is_empty ps)))) e
    ∙ go (slice_split is_empty ps) h
  where
    go : (rs : List (List (List ℕ))) → map length rs ≡ n ∷ ns → map length (onto_first p rs) ≡ suc n ∷ ns
    go [] k = cc
    go (r ∷ rs) k = cc

gap_first : (p : List ℕ) (ps : List (List ℕ)) → is_empty p ≡ true → runs (p ∷ ps) ≡ 0 ∷ runs ps
gap_first p ps e = ap (λ b. map length (cond b ([] ∷ slice_split is_empty ps) (onto_first p (slice_split is_empty ps)))) e

pub agree : (ps qs : List (List ℕ)) → length ps ≡ length qs
    → is_lt (slice_cmp bool_cmp (map is_empty ps) (map is_empty qs)) ≡ is_gt (slice_cmp nat_cmp (runs ps) (runs qs))
agree [] [] e = refl
agree [] (q ∷ qs) e = absurd (omega arith)
agree (p ∷ ps) [] e = absurd (omega arith)
agree (p ∷ ps) (q ∷ qs) e =
    go (is_empty p) (is_empty q) refl refl (first_run ps) (first_run qs) (agree ps qs (omega arith))
  where
    go : (a b : Bool) → is_empty p ≡ a → is_empty q ≡ b → (n : ℕ) × (ns : List ℕ) × (runs ps ≡ n ∷ ns)
        → (n : ℕ) × (ns : List ℕ) × (runs qs ≡ n ∷ ns)
        → is_lt (slice_cmp bool_cmp (map is_empty ps) (map is_empty qs)) ≡ is_gt (slice_cmp nat_cmp (runs ps) (runs qs))
        → is_lt (ordering_then (bool_cmp (is_empty p) (is_empty q)) (slice_cmp bool_cmp (map is_empty ps) (map is_empty qs)))
        ≡ is_gt (slice_cmp nat_cmp (runs (p ∷ ps)) (runs (q ∷ qs)))
    go true true h k m n rest = rw (gap_first p ps h, gap_first q qs k, h, k) rest
    go true false h k m n rest = rw (gap_first p ps h, longer q qs n.0 n.1 k n.2, h, k) (rw (none_below n.0) refl)
    go false true h k m n rest = rw (longer p ps m.0 m.1 h m.2, gap_first q qs k, h, k) (rw (some_above m.0) refl)
    go false false h k m n rest = rw (longer p ps m.0 m.1 h m.2, longer q qs n.0 n.1 k n.2, h, k)
        (rw (one_more m.0 n.0) (rest ∙ λ i. is_gt (slice_cmp nat_cmp (m.2 i) (n.2 i))))

same_length : (ps us : List (List ℕ)) → pointwise part_matches ps us ≡ true → length ps ≡ length us
same_length [] [] h = refl
same_length [] (u ∷ us) h = cc
same_length (p ∷ ps) [] h = cc
same_length (p ∷ ps) (u ∷ us) h = ap suc (same_length ps us (go (part_matches p u) _ h))
  where
    go : (a b : Bool) → (a && b) ≡ true → b ≡ true
    go true b h = h
    go false b h = cc

pub wordings : (a b uri : List ℕ) → text_matches Wildcard a uri ≡ true → text_matches Wildcard b uri ≡ true
    → is_named_first a b ≡ has_longer_run a b
wordings a b uri h k = agree (parts a) (parts b) (same_length (parts a) (parts uri) h ∙ sym (same_length (parts b) (parts uri) k))
