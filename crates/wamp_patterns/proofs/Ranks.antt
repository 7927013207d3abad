-- The order of the patterns that match one URI.
use Rattle.std.proofs.Common.{◌≡◌, ◌≢◌, ℕ, suc, Bool, true, false, not, ◌&&◌, ◌||◌, Ordering, List, [], ◌∷◌, length, map, take}
use Rattle.std.proofs.Common.{ltb, eqb, refl, ap, sym, ◌∙◌, arith}
use Rattle.std.specs.declared.cmp.Ordering.TheVariants.{Less, Equal, Greater}
use Rattle.std.specs.List.{join_with_byte}
use Rattle.std.specs.Ordering.{is_lt, bool_cmp, ordering_then, ordering_reverse}
use Rattle.std.specs.Cmp.{IsTotalOrder, bool_cmp_total}
use Rattle.std.specs.Cmp.Lexicographic.{pointwise, slice_cmp}
use Rattle.std.proofs.lemmas.Bool.Decides.{nat_tests}
use Rattle.std.proofs.lemmas.Cmp.{lists_total, tied_itself}
use Rattle.std.proofs.lemmas.List.Splits.{join_with_byte-slice_split}
use Rattle.std.proofs.lemmas.Slice.Eq.{bytes_eq-Decides}
use Rattle.wamp_ids.specs.declared.policy.Match.{Match}
use Rattle.wamp_ids.specs.declared.policy.Match.TheVariants.{Exact, Prefix, Wildcard}
use Rattle.wamp_ids.specs.Uri.{parts, is_empty}
use Rattle.wamp_ids.specs.Pattern.{PatternValue}
use Rattle.wamp_patterns.specs.Matching.{part_matches, text_matches, matches}
use Rattle.wamp_patterns.specs.Ranking.{better, gaps, is_named_first, text_is_better}

pub off : {P : Type 0} → true ≡ false → P
off e = cc

gaps_total : IsTotalOrder (slice_cmp bool_cmp)
gaps_total = lists_total bool_cmp_total

is_less : (o : Ordering) → is_lt o ≡ true → o ≡ Less
is_less Less h = refl
is_less Equal h = off (sym h)
is_less Greater h = off (sym h)

lower_through : (a b c : ℕ) → ltb b a ≡ true → ltb c b ≡ true → ltb c a ≡ true
lower_through a b c h k = grind (arith, nat_tests)

not_lower : (a : ℕ) → ltb a a ≡ false
not_lower a = grind (arith, nat_tests)

level : (a b : ℕ) → ltb a b ≡ false → ltb b a ≡ false → a ≡ b
level a b h k = grind (arith, nat_tests)

itself_by : (m : Match) (s : List ℕ) → text_is_better m s m s ≡ false
itself_by Exact s = refl
itself_by Prefix s = not_lower (length s)
itself_by Wildcard s = ap is_lt (tied_itself gaps_total (gaps s))

pub itself : (a : PatternValue) → better a a ≡ false
itself a = itself_by a.matching a.text

through_by : (m n o : Match) (s t u : List ℕ) → text_is_better m s n t ≡ true → text_is_better n t o u ≡ true → text_is_better m s o u ≡ true
through_by Prefix Prefix Prefix s t u h k = lower_through (length s) (length t) (length u) h k
through_by Wildcard Wildcard Wildcard s t u h k = ap is_lt (gaps_total.trans (gaps s) (gaps t) (gaps u) (is_less _ h) (is_less _ k))
through_by Exact Exact o s t u h k = off (sym h)
through_by Exact Prefix Exact s t u h k = off (sym k)
through_by Exact Prefix Prefix s t u h k = refl
through_by Exact Prefix Wildcard s t u h k = refl
through_by Exact Wildcard Exact s t u h k = off (sym k)
through_by Exact Wildcard Prefix s t u h k = off (sym k)
through_by Exact Wildcard Wildcard s t u h k = refl
through_by Prefix Exact o s t u h k = off (sym h)
through_by Prefix Prefix Exact s t u h k = off (sym k)
through_by Prefix Prefix Wildcard s t u h k = refl
through_by Prefix Wildcard Exact s t u h k = off (sym k)
through_by Prefix Wildcard Prefix s t u h k = off (sym k)
through_by Prefix Wildcard Wildcard s t u h k = refl
through_by Wildcard Exact o s t u h k = off (sym h)
through_by Wildcard Prefix o s t u h k = off (sym h)
through_by Wildcard Wildcard Exact s t u h k = off (sym k)
through_by Wildcard Wildcard Prefix s t u h k = off (sym k)

pub through : (a b c : PatternValue) → better a b ≡ true → better b c ≡ true → better a c ≡ true
through a b c = through_by a.matching b.matching c.matching a.text b.text c.text

-- ---- of two that match one URI, only equal ones are tied

pub not_none : (n : ℕ) → eqb (suc n) 0 ≡ false
not_none n = grind (arith, nat_tests)

pub no_parts : (p : List ℕ) → is_empty p ≡ true → p ≡ []
no_parts [] h = refl
no_parts (x ∷ p) h = off (sym h ∙ not_none (length p))

pub and_left : (a b : Bool) → (a && b) ≡ true → a ≡ true
and_left true b h = refl
and_left false b h = off (sym h)

pub and_right : (a b : Bool) → (a && b) ≡ true → b ≡ true
and_right true b h = h
and_right false b h = off (sym h)

pub or_named : (a b : Bool) → a ≡ false → (a || b) ≡ true → b ≡ true
or_named true b e h = off e
or_named false b e h = h

pub then_first : (o p : Ordering) → ordering_then o p ≡ Equal → o ≡ Equal
then_first Less p h = cc
then_first Equal p h = refl
then_first Greater p h = cc

pub then_second : (o p : Ordering) → ordering_then o p ≡ Equal → p ≡ Equal
then_second Less p h = cc
then_second Equal p h = h
then_second Greater p h = cc

same_bool : (a b : Bool) → bool_cmp a b ≡ Equal → a ≡ b
same_bool true true h = refl
same_bool true false h = cc
same_bool false true h = cc
same_bool false false h = refl

-- a component that matches is empty or the URI's own
same_part : (p q u : List ℕ) (a : Bool) → is_empty p ≡ a → is_empty q ≡ a → part_matches p u ≡ true → part_matches q u ≡ true → p ≡ q
same_part p q u true e f h k = no_parts p e ∙ sym (no_parts q f)
same_part p q u false e f h k = (bytes_eq-Decides p u).0 (or_named (is_empty p) _ e h)
    ∙ sym ((bytes_eq-Decides q u).0 (or_named (is_empty q) _ f k))

same_parts : (ps qs us : List (List ℕ)) → pointwise part_matches ps us ≡ true → pointwise part_matches qs us ≡ true
    → slice_cmp bool_cmp (map is_empty ps) (map is_empty qs) ≡ Equal → ps ≡ qs
same_parts [] [] us h k e = refl
same_parts [] (q ∷ qs) us h k e = cc
same_parts (p ∷ ps) [] us h k e = cc
same_parts (p ∷ ps) (q ∷ qs) [] h k e = off (sym h)
same_parts (p ∷ ps) (q ∷ qs) (u ∷ us) h k e =
    let first : p ≡ q = same_part p q u (is_empty q) (same_bool _ _ (then_first (bool_cmp (is_empty p) (is_empty q)) _ e)) refl
    (and_left (part_matches p u) _ h) (and_left (part_matches q u) _ k) in
    let rest : ps ≡ qs = same_parts ps qs us (and_right (part_matches p u) _ h) (and_right (part_matches q u) _ k)
    (then_second (bool_cmp (is_empty p) (is_empty q)) _ e) in
    λ i. first i ∷ rest i

pub text_from_parts : (s t : List ℕ) → parts s ≡ parts t → s ≡ t
text_from_parts s t e = sym (join_with_byte-slice_split 46 s) ∙ ap (join_with_byte 46) e ∙ join_with_byte-slice_split 46 t

neither_less : (o : Ordering) → is_lt o ≡ false → is_lt (ordering_reverse o) ≡ false → o ≡ Equal
neither_less Less h k = off h
neither_less Equal h k = refl
neither_less Greater h k = off k

same_gaps : (s t : List ℕ) → is_named_first s t ≡ false → is_named_first t s ≡ false → slice_cmp bool_cmp (gaps s) (gaps t) ≡ Equal
same_gaps s t h k = neither_less (slice_cmp bool_cmp (gaps s) (gaps t)) h (sym (ap is_lt (gaps_total.antisymm (gaps t) (gaps s))) ∙ k)

same_front : (s t uri : List ℕ) → text_matches Prefix s uri ≡ true → text_matches Prefix t uri ≡ true → length s ≡ length t → s ≡ t
same_front s t uri h k e = (bytes_eq-Decides s (take (length s) uri)).0 h ∙ ap (λ n. take n uri) e
    ∙ sym ((bytes_eq-Decides t (take (length t) uri)).0 k)

tied_by : (m n : Match) (s t uri : List ℕ) → text_matches m s uri ≡ true → text_matches n t uri ≡ true → text_is_better m s n t ≡ false
    → text_is_better n t m s ≡ false → (m ≡ n) × (s ≡ t)
tied_by Exact Exact s t uri h k x y = (refl, (bytes_eq-Decides s uri).0 h ∙ sym ((bytes_eq-Decides t uri).0 k))
tied_by Prefix Prefix s t uri h k x y = (refl, same_front s t uri h k (level (length s) (length t) y x))
tied_by Wildcard Wildcard s t uri h k x y = (refl, text_from_parts s t (same_parts (parts s) (parts t) (parts uri) h k (same_gaps s t x y)))
tied_by Exact Prefix s t uri h k x y = off x
tied_by Exact Wildcard s t uri h k x y = off x
tied_by Prefix Exact s t uri h k x y = off y
tied_by Prefix Wildcard s t uri h k x y = off x
tied_by Wildcard Exact s t uri h k x y = off y
tied_by Wildcard Prefix s t uri h k x y = off y

pub tied : (a b : PatternValue) (uri : List ℕ) → matches a uri ≡ true → matches b uri ≡ true → better a b ≡ false → better b a ≡ false → a ≡ b
tied a b uri h k x y =
    let parts_same = tied_by a.matching b.matching a.text b.text uri h k x y in
    λ i. record { text = parts_same.1 i; matching = parts_same.0 i }

pub exactly_one : (a b : PatternValue) (uri : List ℕ) → matches a uri ≡ true → matches b uri ≡ true → a ≢ b → better b a ≡ not (better a b)
exactly_one a b uri h k apart = go (better a b) (better b a) refl refl
  where
    go : (x y : Bool) → better a b ≡ x → better b a ≡ y → y ≡ not x
    go true true e f = off (sym (through a b a e f) ∙ itself a)
    go true false e f = refl
    go false true e f = refl
    go false false e f = absurd (apart (tied a b uri h k e f))
