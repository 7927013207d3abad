-- Which entry serves, among entries with patterns.
use Rattle.std.proofs.Common.{◌≡◌, ℕ, zero, suc, Bool, true, Option, Some, None, is_some, List, [], ◌∷◌, ap, sym, ◌∙◌}
use Rattle.std.specs.List.{AllByRecursion, fold, list_any, slice_get}
use Rattle.wamp_ids.specs.Pattern.{PatternValue}
use Rattle.wamp_patterns.specs.Matching.{matches}
use Rattle.wamp_patterns.specs.Ranking.{best_so_far, better, is_unbeaten, matching, serves}
use Rattle.wamp_patterns.proofs.Best.{all_filtered, not_beaten, one_pass, some_picked}
use Rattle.wamp_patterns.proofs.Ranks.{itself, through, tied}

module _ {X : Type 0} (pattern_of : X → PatternValue) where
  abbrev pub beats : X → X → Bool
  beats x y = better (pattern_of x) (pattern_of y)

  pub found_in_one_pass : (entries : List X) (uri : List ℕ)
      → fold (best_so_far pattern_of) None (matching pattern_of entries uri) ≡ serves pattern_of entries uri
  found_in_one_pass entries uri =
      one_pass beats (λ x. matches (pattern_of x) uri ≡ true) (λ x. itself (pattern_of x))
      (λ x y z. through (pattern_of x) (pattern_of y) (pattern_of z))
      (λ x y h k p q z. let e = tied (pattern_of x) (pattern_of y) uri h k p q in
      (ap (λ (a : PatternValue). better a (pattern_of z)) e, ap (λ (a : PatternValue). better (pattern_of z) a) e))
      (matching pattern_of entries uri) (all_filtered (λ x. matches (pattern_of x) uri) entries)

  pub some_serves : (entries : List X) (uri : List ℕ)
      → is_some (serves pattern_of entries uri) ≡ list_any (λ x. matches (pattern_of x) uri) entries
  some_serves entries uri = sym (ap is_some (found_in_one_pass entries uri)) ∙ some_picked beats (λ x. matches (pattern_of x) uri) entries

  pub matching_at : (uri : List ℕ) (xs : List X) (i : ℕ) (x : X) → AllByRecursion (λ y. matches (pattern_of y) uri ≡ true) xs
      → slice_get xs i ≡ Some x → matches (pattern_of x) uri ≡ true
  matching_at uri [] i x all e = cc
  matching_at uri (y ∷ ys) zero x all e = go (Some x) (sym e)
    where
      matches_of : Option X → Bool
      matches_of None = true
      matches_of (Some z) = matches (pattern_of z) uri

      go : (o : Option X) → o ≡ Some y → matches_of o ≡ true
      go o h = ap matches_of h ∙ all.0
  matching_at uri (y ∷ ys) (suc i) x all e = matching_at uri ys i x all.1 e

  pub one_unbeaten : (entries : List X) (uri : List ℕ) (i j : ℕ) (x y : X) → slice_get (matching pattern_of entries uri) i ≡ Some x
      → slice_get (matching pattern_of entries uri) j ≡ Some y
      → is_unbeaten pattern_of (matching pattern_of entries uri) x ≡ true
      → is_unbeaten pattern_of (matching pattern_of entries uri) y ≡ true → pattern_of x ≡ pattern_of y
  one_unbeaten entries uri i j x y at_i at_j free_x free_y =
      let all = all_filtered (λ z. matches (pattern_of z) uri) entries in
      let fit = matching pattern_of entries uri in
      tied (pattern_of x) (pattern_of y) uri (matching_at uri fit i x all at_i) (matching_at uri fit j y all at_j)
      (not_beaten beats y x fit i free_y at_i) (not_beaten beats x y fit j free_x at_j)
