-- The order of the entries is total, and ties equal patterns alone.
use Rattle.std.proofs.Common.{◌≡◌, ◌↔◌, ℕ, true, List, [], ◌∷◌, refl, ap, subst, arith}
use Rattle.std.specs.declared.cmp.Ordering.{Ordering}
use Rattle.std.specs.declared.cmp.Ordering.TheVariants.{Less, Equal, Greater}
use Rattle.std.specs.Bool.{IsTrue}
use Rattle.std.specs.Ordering.{is_eq, nat_cmp}
use Rattle.std.specs.List.Sorted.{IsStrictlySortedBy}
use Rattle.std.specs.Cmp.{IsTotalOrder}
use Rattle.std.specs.Cmp.Lexicographic.{slice_cmp}
use Rattle.std.proofs.lemmas.Bool.Decides.{nat_tests}
use Rattle.std.proofs.lemmas.Cmp.{then_total, on_total, nat_cmp_total, nat_list_cmp_total, tied_itself}
use Rattle.wamp_ids.specs.declared.policy.Match.{Match}
use Rattle.wamp_ids.specs.declared.policy.Match.TheVariants.{Exact, Prefix, Wildcard}
use Rattle.wamp_ids.specs.Pattern.{PatternValue}
use Rattle.wamp_patterns.specs.Table.{rank, pattern_cmp, same_pattern, AreInOrder}
use Rattle.wamp_patterns.proofs.Ranks.{then_first, then_second}

pub pattern_total : IsTotalOrder pattern_cmp
pattern_total = then_total (on_total (λ (p : PatternValue). rank p.matching) nat_cmp_total)
    (on_total (λ (p : PatternValue). p.text) nat_list_cmp_total)

pub none_in_order : {V : Type 0} (es : List (PatternValue × V)) → es ≡ [] → AreInOrder es
unfolding IsStrictlySortedBy
none_in_order es e = rw e tt

same_rank : (m n : Match) → nat_cmp (rank m) (rank n) ≡ Equal → m ≡ n
same_rank Exact Exact h = refl
same_rank Prefix Prefix h = refl
same_rank Wildcard Wildcard h = refl
same_rank Exact Prefix h = cc
same_rank Exact Wildcard h = cc
same_rank Prefix Exact h = cc
same_rank Prefix Wildcard h = cc
same_rank Wildcard Exact h = cc
same_rank Wildcard Prefix h = cc

same_number : (m n : ℕ) → nat_cmp m n ≡ Equal → m ≡ n
same_number m n h = grind (arith, nat_tests)

same_text : (xs ys : List ℕ) → slice_cmp nat_cmp xs ys ≡ Equal → xs ≡ ys
same_text [] [] h = refl
same_text [] (y ∷ ys) h = cc
same_text (x ∷ xs) [] h = cc
same_text (x ∷ xs) (y ∷ ys) h =
    let first : x ≡ y = same_number x y (then_first (nat_cmp x y) _ h) in
    let rest : xs ≡ ys = same_text xs ys (then_second (nat_cmp x y) _ h) in
    λ i. first i ∷ rest i

is_equal : (o : Ordering) → is_eq o ≡ true → o ≡ Equal
is_equal Less h = cc
is_equal Equal h = refl
is_equal Greater h = cc

pub kept_as_one : (a b : PatternValue) → IsTrue (same_pattern a b) ↔ (a ≡ b)
kept_as_one a b = (
  λ h. let equal : pattern_cmp a b ≡ Equal = is_equal (pattern_cmp a b) h in
      let ranks : a.matching ≡ b.matching = same_rank a.matching b.matching (then_first (nat_cmp (rank a.matching) (rank b.matching)) _ equal) in
      let texts : a.text ≡ b.text = same_text a.text b.text (then_second (nat_cmp (rank a.matching) (rank b.matching)) _ equal) in
      λ i. record { text = texts i; matching = ranks i },
  λ e. subst (λ (c : PatternValue). is_eq (pattern_cmp a c) ≡ true) e (ap is_eq (tied_itself pattern_total a)),
)
