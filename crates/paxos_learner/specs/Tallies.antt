-- Votes that were heard, counted for each ballot in each slot: which nodes cast one there.
use Rattle.std.proofs.Common.{ℕ, Bool, ◌&&◌, List}
use Rattle.std.specs.Prelude.{◌==◌, nat_lt, filter}
use Rattle.std.specs.Option.{unwrap_or}
use Rattle.std.specs.Map.{lookup}
pub use Rattle.indexmap.specs.IndexMap.{insert_entry}
use Rattle.paxos_packets.specs.Ballot.{same_ballot}
use Rattle.paxos_packets.specs.Members.{no_nodes, set_with}
use Rattle.paxos_packets.specs.declared.vote.Vote.{Vote}
use Rattle.paxos_learner.specs.declared.tallies.SlotBallot.{SlotBallot}

-- each place with the nodes that were heard there, in the order in which the places were first heard
abbrev pub Heard : Type 0
Heard = List (SlotBallot × List Bool)

-- what callers see: what was heard, and for how many places more there is room
pub record Table : Type 0 where
  pub heard : Heard
  pub room : ℕ

abbrev pub same_place : SlotBallot → SlotBallot → Bool
same_place p q = (p.slot == q.slot) && same_ballot p.ballot q.ballot

-- where a vote counts
abbrev pub place_of : {B : Type 0} → Vote B → SlotBallot
place_of v = record { slot = v.slot; ballot = v.ballot }

-- the nodes that were heard there
abbrev pub nodes_heard : SlotBallot → Heard → List Bool
nodes_heard place heard = unwrap_or (lookup (same_place place) heard) no_nodes

-- what is left above a floor
abbrev pub heard_above : ℕ → Heard → Heard
heard_above floor heard = filter (λ t. nat_lt floor t.0.slot) heard

-- one more is heard
abbrev pub hear : ℕ → SlotBallot → Heard → Heard
hear node place heard = insert_entry same_place heard place (set_with (nodes_heard place heard) node)
