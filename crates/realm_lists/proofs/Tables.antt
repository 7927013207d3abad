-- A look-up by the test of equal keys is that by their order.
use Rattle.std.proofs.Common.{◌≡◌, ℕ, Bool, cond, List, [], ◌∷◌, Option, Some, refl, sym, ◌∙◌}
use Rattle.std.specs.declared.cmp.Ordering.{Ordering}
use Rattle.std.specs.BTreeMap.{is_at}
use Rattle.std.specs.Map.{lookup}
use Rattle.realm_lists.specs.PlaceIndex.{place_at}

module _ {K : Type 0} (cmp : K → K → Ordering) (eq : K → K → Bool) (ties : (key other : K) → eq key other ≡ is_at (cmp key) other) where
  pub by_order : (entries : List (K × ℕ)) (key : K) → lookup (eq key) entries ≡ place_at cmp entries key
  by_order [] key = refl
  by_order (entry ∷ entries) key = λ i. cond (ties key entry.0 i) (Some entry.1) (by_order entries key i)

  pub updated : (entries changed : List (K × ℕ)) (key : K) (value : Option ℕ)
      → ((other : K) → lookup (eq other) changed ≡ cond (eq key other) value (lookup (eq other) entries))
      → (other : K) → place_at cmp changed other ≡ cond (eq key other) value (place_at cmp entries other)
  updated entries changed key value told other =
      sym (by_order changed other) ∙ told other ∙ (λ i. cond (eq key other) value (by_order entries other i))
