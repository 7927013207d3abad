-- What a kind and a URI leave: the one text of this kind that may match, and when it does.
use Rattle.std.proofs.Common.{◌≡◌, ℕ, zero, suc, ◌+◌, ◌-◌, ◌*◌, ◌/◌, ◌%◌, ◌<◌, ◌≤◌, Bool, true, false, cond, ◌&&◌, ◌||◌, Option, Some, None}
use Rattle.std.proofs.Common.{Ordering, List, [], ◌∷◌, ◌++◌, length, map, take, drop, eqb, ltb, leb, refl, ap, sym, subst, ◌∙◌, arith}
use Rattle.std.specs.declared.cmp.Ordering.TheVariants.{Less, Equal, Greater}
use Rattle.std.specs.List.{list_any, onto_first}
use Rattle.std.specs.Ordering.{is_lt, nat_cmp, bool_cmp, ordering_then}
use Rattle.std.specs.Cmp.Lexicographic.{pointwise, slice_cmp}
use Rattle.std.proofs.lemmas.Bool.Decides.{nat_tests}
use Rattle.std.proofs.lemmas.List.Splits.{length-slice_split}
use Rattle.std.proofs.lemmas.Slice.Eq.{bytes_eq-Decides}
use Rattle.wamp_ids.specs.declared.policy.Match.{Match}
use Rattle.wamp_ids.specs.declared.policy.Match.TheVariants.{Exact, Prefix, Wildcard}
use Rattle.wamp_ids.specs.Uri.{parts, is_empty}
use Rattle.wamp_patterns.specs.Matching.{part_matches, text_matches}
use Rattle.wamp_patterns.specs.Ranking.{text_is_better}
use Rattle.wamp_patterns.specs.Kinds.{behind, components, ended, ending, filled, front, gap, gaps_from, is_named, is_shaped, kind, masked, shape, two_octets}
use Rattle.wamp_patterns.specs.Texts.{text_cmp}
use Rattle.wamp_patterns.proofs.Shapes.{gaps_behind, ordered_gaps, shaped_own, shaped_same}
use Rattle.wamp_patterns.proofs.Ranks.{no_parts, or_named, and_left, and_right, not_none, off, text_from_parts}

-- ---- which components are empty

gap_by : (part : List ℕ) (b : Bool) → is_empty part ≡ b → gap part ≡ cond b 1 0
gap_by part b e = ap (λ c. cond c 1 0) e

longer_by_one : (c : ℕ) (part : List ℕ) → gap (c ∷ part) ≡ 0
longer_by_one c part = gap_by (c ∷ part) false (not_none (length part))

onto : (c : ℕ) (ps : List (List ℕ)) → map gap (onto_first c ps) ≡ 0 ∷ behind (map gap ps)
onto c [] = ap (λ g. g ∷ []) (longer_by_one c [])
onto c (p ∷ ps) = ap (λ g. g ∷ map gap ps) (longer_by_one c p)

told : (text : List ℕ) → (gaps_from 1 text ≡ map gap (parts text)) × (gaps_from 0 text ≡ 0 ∷ behind (map gap (parts text)))
told [] = (refl, refl)
told (c ∷ cs) = go (eqb c 46) (told cs)
  where
    go : (b : Bool) → (gaps_from 1 cs ≡ map gap (parts cs)) × (gaps_from 0 cs ≡ 0 ∷ behind (map gap (parts cs)))
        → (cond b (1 ∷ gaps_from 1 cs) (gaps_from 0 cs) ≡ map gap (cond b ([] ∷ parts cs) (onto_first c (parts cs))))
        × (cond b (0 ∷ gaps_from 1 cs) (gaps_from 0 cs) ≡ 0 ∷ behind (map gap (cond b ([] ∷ parts cs) (onto_first c (parts cs)))))
    go true h = (ap (λ gs. 1 ∷ gs) h.0, ap (λ gs. 0 ∷ gs) h.0)
    go false h = (h.1 ∙ sym (onto c (parts cs)), h.1 ∙ sym (ap (λ gs. 0 ∷ behind gs) (onto c (parts cs))))

pub all_told : (text : List ℕ) → gaps_from 1 text ≡ map gap (parts text)
all_told text = (told text).0

-- ---- a URI without some of its components

abbrev mask : List ℕ → List (List ℕ) → List (List ℕ)
mask gs [] = []
mask gs (p ∷ ps) = cond (is_named gs) p [] ∷ mask (behind gs) ps

nothing : (b : Bool) → cond {A = List ℕ} b [] [] ≡ []
nothing true = refl
nothing false = refl

-- there is a first component
first_part : (text : List ℕ) → (p : List ℕ) × (ps : List (List ℕ)) × (parts text ≡ p ∷ ps)
first_part [] = ([], [], refl)
first_part (c ∷ cs) = go (eqb c 46) (first_part cs)
  where
    go : (b : Bool) → (p : List ℕ) × (ps : List (List ℕ)) × (parts cs ≡ p ∷ ps)
        → (p : List ℕ) × (ps : List (List ℕ)) × (cond b ([] ∷ parts cs) (onto_first c (parts cs)) ≡ p ∷ ps)
    go true h = ([], parts cs, refl)
    go false h = (c ∷ h.0, h.1, ap (onto_first c) h.2)

onto_named : (gs : List ℕ) (c : ℕ) (ps : List (List ℕ)) → is_named gs ≡ true → onto_first c (mask gs ps) ≡ mask gs (onto_first c ps)
onto_named gs c [] e = ap (λ b. cond b (c ∷ []) [] ∷ []) (sym e)
onto_named gs c (p ∷ ps) e = ap (λ b. (c ∷ cond b p []) ∷ mask (behind gs) ps) e ∙ ap (λ b. cond b (c ∷ p) [] ∷ mask (behind gs) ps) (sym e)

onto_empty : (gs : List ℕ) (c : ℕ) (text : List ℕ) → is_named gs ≡ false → mask gs (parts text) ≡ mask gs (onto_first c (parts text))
onto_empty gs c text e = go (parts text) (first_part text)
  where
    go : (qs : List (List ℕ)) → (p : List ℕ) × (ps : List (List ℕ)) × (qs ≡ p ∷ ps) → mask gs qs ≡ mask gs (onto_first c qs)
    go [] h = cc h.2
    go (q ∷ qs) h = ap (λ b. cond b q [] ∷ mask (behind gs) qs) e ∙ ap (λ b. cond b (c ∷ q) [] ∷ mask (behind gs) qs) (sym e)

parts_masked : (gs u : List ℕ) → parts (masked gs u) ≡ mask gs (parts u)
parts_masked gs [] = ap (λ p. p ∷ []) (sym (nothing (is_named gs)))
parts_masked gs (c ∷ cs) = go (eqb c 46) refl (is_named gs) refl (parts_masked (behind gs) cs) (parts_masked gs cs)
  where
    go : (b : Bool) → eqb c 46 ≡ b → (n : Bool) → is_named gs ≡ n → parts (masked (behind gs) cs) ≡ mask (behind gs) (parts cs)
        → parts (masked gs cs) ≡ mask gs (parts cs)
        → parts (cond b (46 ∷ masked (behind gs) cs) (cond n (c ∷ masked gs cs) (masked gs cs)))
        ≡ mask gs (cond b ([] ∷ parts cs) (onto_first c (parts cs)))
    go true e n f after same = ap (λ ps. [] ∷ ps) after ∙ ap (λ p. p ∷ mask (behind gs) (parts cs)) (sym (nothing (is_named gs)))
    go false e true f after same =
        ap (λ b. cond b ([] ∷ parts (masked gs cs)) (onto_first c (parts (masked gs cs)))) e
        ∙ ap (onto_first c) same ∙ onto_named gs c (parts cs) f
    go false e false f after same = same ∙ onto_empty gs c cs f

-- of a wildcard that matches, the URI gives the named components
mask_gaps : (ws us : List (List ℕ)) → pointwise part_matches ws us ≡ true → mask (map gap ws) us ≡ ws
mask_gaps [] [] h = refl
mask_gaps [] (u ∷ us) h = off (sym h)
mask_gaps (w ∷ ws) [] h = off (sym h)
mask_gaps (w ∷ ws) (u ∷ us) h =
    let first : cond (eqb (gap w) 0) u [] ≡ w = go (is_empty w) refl (and_left (part_matches w u) _ h) in
    let rest : mask (map gap ws) us ≡ ws = mask_gaps ws us (and_right (part_matches w u) _ h) in
    λ i. first i ∷ rest i
  where
    go : (b : Bool) → is_empty w ≡ b → part_matches w u ≡ true → cond (eqb (gap w) 0) u [] ≡ w
    go true e m = ap (λ g. cond (eqb g 0) u []) (gap_by w true e) ∙ sym (no_parts w e)
    go false e m = ap (λ g. cond (eqb g 0) u []) (gap_by w false e) ∙ sym ((bytes_eq-Decides w u).0 (or_named (is_empty w) _ e m))

-- what is left of a URI matches it
mask_matches : (gs : List ℕ) (us : List (List ℕ)) → pointwise part_matches (mask gs us) us ≡ true
mask_matches gs [] = refl
mask_matches gs (u ∷ us) = go (is_named gs) (mask_matches (behind gs) us)
  where
    either_true : (a : Bool) → (a || true) ≡ true
    either_true true = refl
    either_true false = refl

    go : (b : Bool) → pointwise part_matches (mask (behind gs) us) us ≡ true
        → (part_matches (cond b u []) u && pointwise part_matches (mask (behind gs) us) us) ≡ true
    go true h =
        ap (λ c. (is_empty u || c) && pointwise part_matches (mask (behind gs) us) us) ((bytes_eq-Decides u u).1 refl)
        ∙ ap (λ c. c && pointwise part_matches (mask (behind gs) us) us) (either_true (is_empty u)) ∙ h
    go false h = h

-- of components that are not empty, those are empty after masking that the mask says
gaps_masked : (ws us : List (List ℕ)) → length ws ≡ length us → list_any is_empty us ≡ false → map gap (mask (map gap ws) us) ≡ map gap ws
gaps_masked [] [] l h = refl
gaps_masked [] (u ∷ us) l h = absurd (omega arith)
gaps_masked (w ∷ ws) [] l h = absurd (omega arith)
gaps_masked (w ∷ ws) (u ∷ us) l h =
    let first : gap (cond (eqb (gap w) 0) u []) ≡ gap w = go (is_empty w) refl (left (is_empty u) _ h) in
    let rest : map gap (mask (map gap ws) us) ≡ map gap ws = gaps_masked ws us (omega arith) (right (is_empty u) _ h) in
    λ i. first i ∷ rest i
  where
    left : (a b : Bool) → (a || b) ≡ false → a ≡ false
    left true b e = off e
    left false b e = refl

    right : (a b : Bool) → (a || b) ≡ false → b ≡ false
    right true b e = off e
    right false b e = e

    go : (b : Bool) → is_empty w ≡ b → is_empty u ≡ false → gap (cond (eqb (gap w) 0) u []) ≡ gap w
    go true e f = ap (λ g. gap (cond (eqb g 0) u [])) (gap_by w true e) ∙ sym (gap_by w true e)
    go false e f = ap (λ g. gap (cond (eqb g 0) u [])) (gap_by w false e) ∙ gap_by u false f ∙ sym (gap_by w false e)

bits : (a b : Bool) → nat_cmp (cond a 1 0) (cond b 1 0) ≡ bool_cmp a b
bits true true = refl
bits true false = refl
bits false true = refl
bits false false = refl

-- kinds of wildcards are ordered as these serve
gaps_order : (ps qs : List (List ℕ)) → slice_cmp nat_cmp (map gap ps) (map gap qs) ≡ slice_cmp bool_cmp (map is_empty ps) (map is_empty qs)
gaps_order [] [] = refl
gaps_order [] (q ∷ qs) = refl
gaps_order (p ∷ ps) [] = refl
gaps_order (p ∷ ps) (q ∷ qs) = λ i. ordering_then (bits (is_empty p) (is_empty q) i) (gaps_order ps qs i)

-- ---- lengths and last octets of prefixes

back : (n : ℕ) → n ≤ 65535 → 65535 - ((65535 - n) / 256 * 256 + (65535 - n) % 256) ≡ n
back n l = omega arith

forth : (n d : ℕ) → d ≤ 65535 → n ≡ 65535 - (d / 256 * 256 + d % 256) → 65535 - n ≡ d
forth n d l e = omega arith

front_within : {A : Type 0} (n : ℕ) (xs : List A) → length (take n xs) ≤ length xs
front_within zero xs = omega arith
front_within (suc n) [] = omega arith
front_within (suc n) (x ∷ xs) = let l = front_within n xs in omega arith

front_length : {A : Type 0} (n : ℕ) (xs : List A) → n ≤ length xs → length (take n xs) ≡ n
front_length zero xs l = refl
front_length (suc n) [] l = absurd (omega arith)
front_length (suc n) (x ∷ xs) l = let e = front_length n xs (omega arith) in omega arith

le_true : (a b : ℕ) → a ≤ b → leb a b ≡ true
le_true a b l = grind (arith, nat_tests)

true_le : (a b : ℕ) → leb a b ≡ true → a ≤ b
true_le a b h = grind (arith, nat_tests)

same_true : (a b : ℕ) → a ≡ b → eqb a b ≡ true
same_true a b e = grind (arith, nat_tests)

true_same : (a b : ℕ) → eqb a b ≡ true → a ≡ b
true_same a b h = grind (arith, nat_tests)

abbrev cut : (n end : ℕ) (u : List ℕ) → Option (List ℕ)
cut n end u = cond (leb n (length u)) (ended end (take n u)) None

some_text : {A : Type 0} {x y : A} → Some x ≡ Some y → x ≡ y
some_text h = cc

begins : (t u : List ℕ) → text_matches Prefix t u ≡ true → (t ≡ take (length t) u) × (length t ≤ length u)
begins t u h =
    let e : t ≡ take (length t) u = (bytes_eq-Decides t (take (length t) u)).0 h in
    (e, subst (λ n. n ≤ length u) (sym (ap length e)) (front_within (length t) u))

ended_as : (t s : List ℕ) → t ≡ s → ended (ending t) s ≡ Some t
ended_as t s e =
    ap (λ b. cond b (Some s) None) (same_true (ending s) (ending t) (ap ending (sym e))) ∙ ap Some (sym e)

prefix_filled : (t u : List ℕ) → length u ≤ 1024 → text_matches Prefix t u ≡ true → filled Prefix (kind Prefix t) u ≡ Some t
prefix_filled t u l h =
    let b = begins t u h in
    let within : length t ≤ length u = b.1 in
    ap (λ n. cut n (ending t) u) (back (length t) (omega arith))
    ∙ ap (λ c. cond c (ended (ending t) (take (length t) u)) None) (le_true (length t) (length u) within)
    ∙ ended_as t (take (length t) u) b.0

ended_gives : (end : ℕ) (s t : List ℕ) → ended end s ≡ Some t → (s ≡ t) × (ending t ≡ end)
ended_gives end s t h = go (eqb (ending s) end) refl h
  where
    go : (b : Bool) → eqb (ending s) end ≡ b → cond b (Some s) None ≡ Some t → (s ≡ t) × (ending t ≡ end)
    go true e f = (some_text f, ap ending (sym (some_text f)) ∙ true_same (ending s) end e)
    go false e f = off (cc f)

cut_gives : (n end : ℕ) (u t : List ℕ) → cut n end u ≡ Some t → (take n u ≡ t) × (length t ≡ n) × (ending t ≡ end)
cut_gives n end u t h = go (leb n (length u)) refl h
  where
    go : (b : Bool) → leb n (length u) ≡ b → cond b (ended end (take n u)) None ≡ Some t
        → (take n u ≡ t) × (length t ≡ n) × (ending t ≡ end)
    go true e f =
        let g = ended_gives end (take n u) t f in
        (g.0, sym (ap length g.0) ∙ front_length n u (true_le n (length u) e), g.1)
    go false e f = off (cc f)

prefix_matches : (k t u : List ℕ) → front k u ≡ Some t → text_matches Prefix t u ≡ true
prefix_matches [] t u h = cc h
prefix_matches (a ∷ []) t u h = cc h
prefix_matches (a ∷ b ∷ []) t u h = cc h
prefix_matches (high ∷ low ∷ end ∷ []) t u h =
    let g = cut_gives (65535 - (high * 256 + low)) end u t h in
    (bytes_eq-Decides t (take (length t) u)).1 (sym g.0 ∙ ap (λ n. take n u) (sym g.1))
prefix_matches (a ∷ b ∷ c ∷ d ∷ k) t u h = cc h

prefix_kind : (w t u : List ℕ) → front (kind Prefix w) u ≡ Some t → kind Prefix t ≡ kind Prefix w
prefix_kind w t u h = go (65535 - length w) (omega arith) h
  where
    go : (d : ℕ) → d ≤ 65535 → front (two_octets d ++ ending w ∷ []) u ≡ Some t
        → two_octets (65535 - length t) ++ ending t ∷ [] ≡ two_octets d ++ ending w ∷ []
    go d l f =
        let g = cut_gives (65535 - (d / 256 * 256 + d % 256)) (ending w) u t f in
        let same : 65535 - length t ≡ d = forth (length t) d l g.1 in
        let end : ending t ≡ ending w = g.2 in
        λ i. two_octets (same i) ++ end i ∷ []

not_less_first : (o p : Ordering) → is_lt (ordering_then o p) ≡ false → is_lt o ≡ false
not_less_first Less p h = h
not_less_first Equal p h = refl
not_less_first Greater p h = refl

not_less_second : (o p : Ordering) → o ≡ Equal → is_lt (ordering_then o p) ≡ false → is_lt p ≡ false
not_less_second o p e h = sym (ap (λ r. is_lt (ordering_then r p)) e) ∙ h

not_below : (a b : ℕ) → is_lt (nat_cmp a b) ≡ false → b ≤ a
not_below a b h = grind (arith, nat_tests)

level : (a b : ℕ) → a ≡ b → nat_cmp a b ≡ Equal
level a b e = grind (arith, nat_tests)

octets_order : (a b x y : ℕ) → is_lt (text_cmp (two_octets a ++ x ∷ []) (two_octets b ++ y ∷ [])) ≡ false → b ≤ a
octets_order a b x y h =
    let high : b / 256 ≤ a / 256 = not_below (a / 256) (b / 256) (not_less_first (nat_cmp (a / 256) (b / 256)) _ h) in
    by_high (leb (a / 256) (b / 256)) refl high
  where
    by_high : (c : Bool) → leb (a / 256) (b / 256) ≡ c → b / 256 ≤ a / 256 → b ≤ a
    by_high true e high =
        let other : a / 256 ≤ b / 256 = true_le (a / 256) (b / 256) e in
        let same : a / 256 ≡ b / 256 = omega arith in
        let low : b % 256 ≤ a % 256 = not_below (a % 256) (b % 256) (not_less_first (nat_cmp (a % 256) (b % 256)) _
        (not_less_second (nat_cmp (a / 256) (b / 256)) _ (level (a / 256) (b / 256) same) h)) in
        omega arith
    by_high false e high =
        let above : b / 256 < a / 256 = over (a / 256) (b / 256) e in
        omega arith
      where
        over : (x y : ℕ) → leb x y ≡ false → y < x
        over x y f = grind (arith, nat_tests)

prefix_order : (q t : List ℕ) → length q ≤ 65535 → length t ≤ 65535 → is_lt (text_cmp (kind Prefix q) (kind Prefix t)) ≡ false
    → ltb (length t) (length q) ≡ false
prefix_order q t l m h =
    let down : 65535 - length t ≤ 65535 - length q = octets_order (65535 - length q) (65535 - length t) (ending q) (ending t) h in
    not_longer (length t) (length q) (omega arith)
  where
    not_longer : (x y : ℕ) → y ≤ x → ltb x y ≡ false
    not_longer x y le = grind (arith, nat_tests)

-- ---- for each match

same_parts_length : {A B : Type 0} (test : A → B → Bool) (xs : List A) (ys : List B) → pointwise test xs ys ≡ true → length xs ≡ length ys
same_parts_length test [] [] h = refl
same_parts_length test [] (y ∷ ys) h = off (sym h)
same_parts_length test (x ∷ xs) [] h = off (sym h)
same_parts_length test (x ∷ xs) (y ∷ ys) h =
    let e = same_parts_length test xs ys (and_right (test x y) _ h) in omega arith

length_map : {A B : Type 0} (f : A → B) (xs : List A) → length (map f xs) ≡ length xs
length_map f [] = refl
length_map f (x ∷ xs) = ap suc (length_map f xs)

number_of_parts : (text : List ℕ) → length (parts text) ≡ components text
number_of_parts text = length-slice_split (λ c. eqb c 46) text

as_many : (w u : List ℕ) → text_matches Wildcard w u ≡ true → components w ≡ components u
as_many w u h = sym (number_of_parts w) ∙ same_parts_length part_matches (parts w) (parts u) h ∙ number_of_parts u

wildcard_filled : (w u : List ℕ) → text_matches Wildcard w u ≡ true → filled Wildcard (kind Wildcard w) u ≡ Some w
wildcard_filled w u h =
    let same : components w ≡ components u = as_many w u h in
    let gaps : drop (components u + 1) (shape (components w) (map gap (parts w))) ≡ map gap (parts w) =
    gaps_behind (components w) (components u + 1) (map gap (parts w)) (ap (λ n. n + 1) (sym same)) in
    ap (λ b. cond b (Some (masked (drop (components u + 1) (kind Wildcard w)) u)) None)
    (subst (λ n. is_shaped n (kind Wildcard w) ≡ true) same (shaped_own (components w) (map gap (parts w))))
    ∙ ap (λ gs. Some (masked gs u)) gaps
    ∙ ap Some (text_from_parts (masked (map gap (parts w)) u) w
    (parts_masked (map gap (parts w)) u ∙ mask_gaps (parts w) (parts u) h))

wildcard_gives : (k t u : List ℕ) → filled Wildcard k u ≡ Some t
    → (is_shaped (components u) k ≡ true) × (masked (drop (components u + 1) k) u ≡ t)
wildcard_gives k t u h = go (is_shaped (components u) k) refl h
  where
    go : (b : Bool) → is_shaped (components u) k ≡ b → cond b (Some (masked (drop (components u + 1) k) u)) None ≡ Some t
        → (is_shaped (components u) k ≡ true) × (masked (drop (components u + 1) k) u ≡ t)
    go true e f = (e, some_text f)
    go false e f = off (cc f)

wildcard_matches : (k t u : List ℕ) → filled Wildcard k u ≡ Some t → text_matches Wildcard t u ≡ true
wildcard_matches k t u h =
    let g = wildcard_gives k t u h in
    ap (λ ps. pointwise part_matches ps (parts u)) (ap parts (sym g.1) ∙ parts_masked (drop (components u + 1) k) u)
    ∙ mask_matches (drop (components u + 1) k) (parts u)

wildcard_kind : (w t u : List ℕ) → list_any is_empty (parts u) ≡ false → filled Wildcard (kind Wildcard w) u ≡ Some t
    → kind Wildcard t ≡ kind Wildcard w
wildcard_kind w t u named h =
    let g = wildcard_gives (kind Wildcard w) t u h in
    let same : components u ≡ components w = shaped_same (components u) (components w) (map gap (parts w)) g.0 in
    let gaps : drop (components u + 1) (shape (components w) (map gap (parts w))) ≡ map gap (parts w) =
    gaps_behind (components w) (components u + 1) (map gap (parts w)) (ap (λ n. n + 1) same) in
    let text : masked (map gap (parts w)) u ≡ t = ap (λ gs. masked gs u) (sym gaps) ∙ g.1 in
    let told : map gap (parts t) ≡ map gap (parts w) =
    ap (map gap) (ap parts (sym text) ∙ parts_masked (map gap (parts w)) u)
    ∙ gaps_masked (parts w) (parts u) (number_of_parts w ∙ sym same ∙ sym (number_of_parts u)) named in
    let number : components t ≡ components w =
    sym (number_of_parts t) ∙ sym (length_map gap (parts t)) ∙ ap length told ∙ length_map gap (parts w) ∙ number_of_parts w in
    λ i. shape (number i) (told i)

-- what matches is what its kind leaves
pub only_one : (m : Match) (t u : List ℕ) → length u ≤ 1024 → text_matches m t u ≡ true → filled m (kind m t) u ≡ Some t
only_one Exact t u l h = ap Some (sym ((bytes_eq-Decides t u).0 h))
only_one Prefix t u l h = prefix_filled t u l h
only_one Wildcard t u l h = wildcard_filled t u h

-- what a kind leaves matches
pub it_matches : (m : Match) (k t u : List ℕ) → filled m k u ≡ Some t → text_matches m t u ≡ true
it_matches Exact k t u h = (bytes_eq-Decides t u).1 (sym (some_text h))
it_matches Prefix k t u h = prefix_matches k t u h
it_matches Wildcard k t u h = wildcard_matches k t u h

-- what the kind of a text leaves is of this kind
pub of_its_kind : (m : Match) (w t u : List ℕ) → list_any is_empty (parts u) ≡ false → filled m (kind m w) u ≡ Some t → kind m t ≡ kind m w
of_its_kind Exact w t u named h = refl
of_its_kind Prefix w t u named h = prefix_kind w t u h
of_its_kind Wildcard w t u named h = wildcard_kind w t u named h

-- of two that match, one whose kind does not come first is not better
pub no_better : (m : Match) (q t u : List ℕ) → length u ≤ 1024 → text_matches m q u ≡ true → text_matches m t u ≡ true
    → is_lt (text_cmp (kind m q) (kind m t)) ≡ false → text_is_better m q m t ≡ false
no_better Exact q t u l h k order = refl
no_better Prefix q t u l h k order =
    let a : length q ≤ length u = (begins q u h).1 in
    let b : length t ≤ length u = (begins t u k).1 in
    prefix_order q t (omega arith) (omega arith) order
no_better Wildcard q t u l h k order =
    let same : components t ≡ components q = as_many t u k ∙ sym (as_many q u h) in
    ap is_lt (sym (gaps_order (parts q) (parts t))
    ∙ sym (ordered_gaps (components t) (map gap (parts q)) (map gap (parts t)))
    ∙ ap (λ n. text_cmp (shape n (map gap (parts q))) (kind Wildcard t)) same) ∙ order
