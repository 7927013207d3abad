-- If there is at most one kind, the value of the first that matches is all there is.
use Rattle.std.proofs.Common.{◌≡◌, ℕ, ◌≤◌, Option, None, Some, List, [], ◌∷◌, ◌++◌, length, map, refl, sym, ap, ◌∙◌, arith}
use denote.Ref.{Bor}
use Rattle.std.specs.Map.{keys_of, lookup, values_of}
use Rattle.std.proofs.lemmas.List.{append-nil}
use Rattle.wamp_ids.specs.declared.policy.Match.{Match}
use Rattle.wamp_patterns.specs.Kinds.{all_found, filled, first_found, first_of, found_text, with_text, with_value}
use Rattle.wamp_patterns.specs.Texts.{same_text}

abbrev pub listed : {V : Type 0} → Option V → List V
listed None = []
listed (Some v) = v ∷ []

module _ {V : Type 0} (m : Match) (texts : List (List ℕ × V)) (u : List ℕ) where
  by_text : (o : Option (List ℕ)) → values_of (with_text m texts o []) ≡ listed (first_of (found_text m texts o) None)
  by_text None = refl
  by_text (Some t) = go (lookup (same_text t) texts)
    where
      go : (o : Option V) → values_of (with_value m texts t o []) ≡ listed (first_of o None)
      go None = refl
      go (Some v) = refl

  pub one_kind : (kinds : List (List ℕ × ℕ)) → length kinds ≤ 1
      → values_of (all_found m texts u [] (keys_of kinds)) ≡ listed (first_found m texts u (keys_of kinds))
  one_kind [] l = refl
  one_kind (k ∷ []) l = by_text (filled m k.0 u)
  one_kind (k ∷ j ∷ kinds) l = absurd (omega arith)

  pub none_first : (kinds : List (List ℕ × ℕ)) → length kinds ≡ 0 → None ≡ first_found m texts u (keys_of kinds)
  none_first [] l = refl
  none_first (k ∷ kinds) l = absurd (omega (arith, l))

  pub none_more : (kinds : List (List ℕ × ℕ)) (found : List (Bor V)) → length kinds ≤ 1 → first_found m texts u (keys_of kinds) ≡ None
      → map (λ value. value.now) found ≡ map (λ value. value.now) found ++ values_of (all_found m texts u [] (keys_of kinds))
  none_more kinds found l none =
      sym (ap (λ vs. map (λ value. value.now) found ++ vs) (one_kind kinds l ∙ ap listed none) ∙ append-nil (map (λ value. value.now) found))

  pub one_more : (kinds : List (List ℕ × ℕ)) (found : List (Bor V)) (value : Bor V) → length kinds ≤ 1
      → first_found m texts u (keys_of kinds) ≡ Some value.now
      → map (λ value. value.now) (found ++ value ∷ [])
      ≡ map (λ value. value.now) found ++ values_of (all_found m texts u [] (keys_of kinds))
  one_more kinds found value l some =
      appended found ∙ sym (ap (λ vs. map (λ value. value.now) found ++ vs) (one_kind kinds l ∙ ap listed some))
    where
      appended : (xs : List (Bor V)) → map (λ value. value.now) (xs ++ value ∷ []) ≡ map (λ value. value.now) xs ++ value.now ∷ []
      appended [] = refl
      appended (x ∷ xs) = ap (λ vs. x.now ∷ vs) (appended xs)
