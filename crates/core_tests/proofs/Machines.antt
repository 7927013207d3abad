-- Machines that have added nothing up are alike.
use Rattle.std.proofs.Common.{◌≡◌, ℕ, zero, suc, Bool, false, Some, List, [], ◌∷◌, ◌++◌, sym, ap, ◌∙◌}
use Rattle.std.specs.Prelude.{slice_get}
use Rattle.cluster_world.specs.Founding.{AreAlike}
use Rattle.core_tests.specs.Machines.{AllNew}

pub new_more : (cs : List (ℕ × Bool)) (c : ℕ × Bool) → AllNew cs → c ≡ (0, false) → AllNew (cs ++ c ∷ [])
new_more [] c a e = (e, tt)
new_more (d ∷ ds) c a e = (a.0, new_more ds c a.1 e)

new_at : (cs : List (ℕ × Bool)) (i : ℕ) (c : ℕ × Bool) → AllNew cs → slice_get cs i ≡ Some c → c ≡ (0, false)
new_at [] i c a e = absurd (cc)
new_at (d ∷ ds) zero c a e = same e ∙ a.0
  where
    same : Some d ≡ Some c → c ≡ d
    same e = cc
new_at (d ∷ ds) (suc i) c a e = new_at ds i c a.1 e

pub alike : {S : Type 0} (content : ℕ × Bool → S) (cs : List (ℕ × Bool)) → AllNew cs → AreAlike content cs
alike content cs a i j c d p q = ap content (new_at cs i c a p ∙ sym (new_at cs j d a q))
