-- A node with its store, its machine and its seat at the table, as callers see it (docs/CONSENSUS.md, "A node with its store").
use Rattle.std.specs.Prelude.{◌≡◌, ℕ, Bool, true, Option, Some, None, [], All, Contains}
use Rattle.paxos_packets.specs.Members.{no_nodes}
use Rattle.paxos_packets.specs.declared.rows.Rows.{Rows}
use Rattle.replica_machine.specs.Log.{LogState}
use Rattle.actor_outboxes.specs.Outboxes.{Waiting, waiting, IsPeer}
use Rattle.paxos_node.specs.Held.{Held}
use Rattle.paxos_node.specs.declared.view.Opened.TheVariants.{With}
use Rattle.actor_parts.specs.Parts.{Parted}
use Rattle.actor_parts.specs.Tried.{IsMeant}
use Rattle.actor_parts.specs.declared.tried.FailedCommit.{FailedCommit}
use Rattle.mail_table.specs.Seats.{Seated}
use Rattle.node_actor.specs.Posts.{MayYet}
use Rattle.node_actor.specs.declared.turning.LastTurn.{LastTurn}

pub record Acting (B M K : Type 0) : Type 0 where
  pub node : Held B
  pub keeper : K
  -- the packets that wait to be posted
  pub waiting : Waiting B
  pub log : LogState B M
  -- what a failed commit was to leave
  pub failed : Option (FailedCommit B)
  -- whether a fault has ended it
  pub spoiled : Bool
  -- its node's seat at the table
  pub seat : Seated B
  -- what it shows of its last turn or round
  pub last : LastTurn

-- what is shown before any turn or round: no packet was fetched, and none was posted
abbrev pub no_turn : LastTurn
no_turn = record { from = None; heard = None; posted = no_nodes; came = [] }

-- an actor of these parts at this seat, which shows this of its last turn or round; the same before any of them; and the parts of an actor

abbrev pub acting_since : {B M K : Type 0} → LastTurn → Parted B M K → Seated B → Acting B M K
acting_since l p s = record {
  node = p.node;
  keeper = p.keeper;
  waiting = p.waiting;
  log = p.log;
  failed = p.failed;
  spoiled = p.spoiled;
  seat = s;
  last = l;
}

abbrev pub acting : {B M K : Type 0} → Parted B M K → Seated B → Acting B M K
acting p s = acting_since no_turn p s

abbrev pub parts : {B M K : Type 0} → Acting B M K → Parted B M K
parts a = record { node = a.node; keeper = a.keeper; waiting = a.waiting; log = a.log; failed = a.failed; spoiled = a.spoiled }

-- what holds of every actor and its seat: the seat knows the actor's node, if that is up, and its rows; the node was opened, and sent all that
-- waits; and what a failed commit was to leave is planned of the node that the seat knows, which may yet take its steps
pub record IsSeated {B M K : Type 0} (same : B → B → Bool) (a : Acting B M K) : Type 0 where
  pub me : a.seat.part.me ≡ a.node.me
  pub members : a.seat.members ≡ a.node.members
  pub node : a.node.state.up ≡ true → a.seat.part.seen.node ≡ a.node.state
  pub same_rows : a.seat.part.seen.node.rows ≡ a.node.state.rows
  pub rows : Rows B
  pub opened : a.seat.part.seen.opened ≡ With rows
  pub waits : (k : ℕ) → IsPeer a.node.me a.node.members k → All (Contains a.seat.part.seen.sent) (waiting k a.waiting)
  pub failed : (m : FailedCommit B) → a.failed ≡ Some m
      → IsMeant same a.node.me a.node.members a.seat.part.seen.node m × MayYet same a.seat.members a.seat.part m
