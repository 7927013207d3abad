-- What a look at the lanes gives.
use Rattle.std.specs.Prelude.{◌<◌, ℕ, Option, Some, None, List, [], ◌∷◌, ◌++◌}
use Rattle.realm_acts.specs.declared.act.Act.{Act}
use Rattle.serve_feed.specs.declared.lanes.Step.{Step}
use Rattle.serve_feed.specs.declared.lanes.Step.TheVariants as step
use Rattle.serve_feed.specs.declared.sources.Sources.{Sources}
use Rattle.serve_feed.specs.Tells.{Tells}

-- an act is given after all others
abbrev pub Adds : ℕ → Act → Sources → List (ℕ × Act) → Type 0
Adds number act sources given = (0 < number) × Tells sources (given ++ (number, act) ∷ [])

-- one look, and looks until an act is found

abbrev pub Steps : Step → Sources → List (ℕ × Act) → Type 0
Steps step.Through sources given = Tells sources given
Steps step.On sources given = Tells sources given
Steps (step.Act number act) sources given = Adds number act sources given

abbrev pub Looks : Option (ℕ × Act) → Sources → List (ℕ × Act) → Type 0
Looks None sources given = Tells sources given
Looks (Some found) sources given = Adds found.0 found.1 sources given
