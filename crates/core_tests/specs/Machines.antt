-- Machines that have added nothing up.
use Rattle.std.specs.Prelude.{◌≡◌, ℕ, Bool, false, List, [], ◌∷◌}

abbrev pub AllNew : List (ℕ × Bool) → Type 0
AllNew [] = Unit {0}
AllNew (c ∷ cs) = (c ≡ (0, false)) × AllNew cs
