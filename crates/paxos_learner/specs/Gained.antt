-- The entries that an event gains: the first is kept apart, as long as there are no others.
use Rattle.std.specs.Prelude.{◌≡◌, Option, Some, None, List, [], ◌∷◌}
use Rattle.paxos_learner.specs.declared.learned.LearnedEntry.{LearnedEntry}
use Rattle.paxos_learner.specs.Learned.{Shelf}

-- what callers see: the entries, by ascending slot
pub record Gains (B : Type 0) : Type 0 where
  pub learned : List (LearnedEntry B)

-- one entry, or those of a shelf
abbrev pub gains_in : {B : Type 0} → Option (LearnedEntry B) → Shelf B → Gains B
gains_in None more = record { learned = more.learned }
gains_in (Some one) more = record { learned = one ∷ [] }

-- if one is kept apart there are no others
abbrev pub StandsApart : {B : Type 0} → Option (LearnedEntry B) → Shelf B → Type 0
StandsApart None more = Unit {0}
StandsApart (Some one) more = more.learned ≡ []
