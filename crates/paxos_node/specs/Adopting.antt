-- What an event does to the parts of a node, stated before it is done, and the node to which it is done (docs/CONSENSUS.md, "One node").
use Rattle.std.specs.Prelude.{◌≡◌, ◌≤◌, ◌<◌, ◌+◌, ◌^◌, ℕ, Bool, false, not, Option, Some, None, List, [], ◌∷◌, ◌++◌, filter, length, if◌then◌else◌}
use Rattle.paxos_packets.specs.declared.entry.Entry.{Entry}
use Rattle.paxos_packets.specs.declared.rows.Change.{Change}
use Rattle.paxos_packets.specs.Snapshot.{Snapshot}
use Rattle.paxos_acceptor.specs.Acceptor as accepting
use Rattle.paxos_proposer.specs.Moves.{after_moves, ArePossible}
use Rattle.paxos_learner.specs.Hearing.{hear_all}
use Rattle.paxos_learner.specs.Learned.{Begins}
use Rattle.replica_machine.specs.declared.roll.Standing.{Standing}
use Rattle.replica_machine.specs.Roll.{is_wanted_by, standings_after}
use Rattle.paxos_node.specs.declared.event.Event.{Event}
use Rattle.paxos_node.specs.declared.outcome.Outcome.{Outcome}
use Rattle.paxos_planning.specs.Node.{NodeState, Plan, log_length, told_length}
use Rattle.paxos_planning.specs.Plan.{begun}
use Rattle.paxos_planning.specs.Front.{IsFront}
use Rattle.paxos_planning.specs.Parts.{proposer_of, learner_of, pending_with, counted_with}
use Rattle.paxos_node.specs.Moved.{Moved}
use Rattle.paxos_node.specs.Applying.{standing_of, down, settle}
use Rattle.paxos_node.specs.Snapshots.{resting_on, settled_if}
use Rattle.paxos_node.specs.Events.{owner, on_event}

-- entries are applied one by one where the nodes stand so, and what each settles is no longer pending
abbrev pub pending_behind : {B : Type 0} → (ℕ → Standing) → List (Entry B) → List (Entry B) → List (Entry B)
pending_behind stands [] pending = pending
pending_behind stands (e ∷ es) pending =
    pending_behind (standings_after stands e) es (filter (is_wanted_by (standings_after stands e)) pending)

-- the node rests on the snapshot that is committed, if one is

abbrev pub rested : {B : Type 0} → Bool → Option Snapshot → NodeState B → NodeState B
rested over None x = x
rested over (Some s) x = settled_if over (resting_on s x)

abbrev pub goes_on : {B : Type 0} → Outcome B → NodeState B → NodeState B
goes_on o x = rested o.moves.over o.change.snapshot x

-- the node that goes on
abbrev pub stays_up : {B : Type 0} → ℕ → ℕ → Outcome B → NodeState B → NodeState B
stays_up me members o x =
    record {
      rows = accepting.adopted x.rows o.change;
      up = x.up;
      proposer = (after_moves o.moves.proposer (proposer_of me members x)).proposer;
      learner = (hear_all o.moves.news (learner_of members (goes_on o x))).learner;
      applied = (goes_on o x).applied ++ o.applied;
      pending = pending_behind (standing_of (goes_on o x)) o.applied (pending_with o.moves.added (goes_on o x).pending);
      taken = counted_with o.moves.added x.taken;
    }

-- the same in two steps. The node has committed the change: it rests on its snapshot, if it has one

abbrev pub committed : {B : Type 0} → Bool → Change B → NodeState B → NodeState B
committed over change x = record (rested over change.snapshot x) { rows = accepting.adopted x.rows change; proposer = x.proposer }

-- then the moves are done to its parts, and the entries are applied
abbrev pub moved_on : {B : Type 0} → ℕ → ℕ → Moved B → List (Entry B) → NodeState B → NodeState B
moved_on me members m applied x =
    record {
      rows = x.rows;
      up = x.up;
      proposer = (after_moves m.proposer (proposer_of me members x)).proposer;
      learner = (hear_all m.news (learner_of members x)).learner;
      applied = x.applied ++ applied;
      pending = pending_behind (standing_of x) applied (pending_with m.added x.pending);
      taken = counted_with m.added x.taken;
    }

-- the node that adopts an outcome
abbrev pub adopted : {B : Type 0} → ℕ → ℕ → Outcome B → NodeState B → NodeState B
adopted me members o x = if o.is_down then down (accepting.adopted x.rows o.change) else stays_up me members o x

-- this many of the first pending entries stand after it, if nothing is applied
abbrev pub front_behind : {B : Type 0} → ℕ → List (Entry B) → ℕ
front_behind n [] = n
front_behind n (e ∷ es) = 0

-- it fits a node: each move is possible in its turn, the floor does not fall, what is applied is what is learned next, and the front stands
-- after it
pub record Fits {B : Type 0} (me members : ℕ) (o : Outcome B) (x : NodeState B) : Type 0 where
  pub moves : ArePossible o.moves.proposer (proposer_of me members x)
  pub rises : x.learner.floor ≤ (goes_on o x).learner.floor
  pub applied : Begins (goes_on o x).learner.floor (stays_up me members o x).applied (stays_up me members o x).learner.learned
  pub within : log_length (goes_on o x) + length o.applied < 2 ^ 40
  pub front : IsFront o.moves.front (log_length (goes_on o x) + length o.applied) (stays_up me members o x).proposer.role
      (stays_up me members o x).pending

-- an outcome is what is made of a node so far, once what it would then have learned is applied: what it commits, sends and applies, the
-- node that adopts it, and the length of that node's log, as it is told
pub record Settled {B : Type 0} (me members : ℕ) (x : NodeState B) (t : Plan B) (o : Outcome B) : Type 0 where
  pub agrees : (settle me t).disagrees ≡ false
  pub change : o.change ≡ (settle me t).change
  pub packets : o.packets ≡ (settle me t).packets
  pub applied : o.applied ≡ (settle me t).applied
  pub is_down : o.is_down ≡ not (settle me t).node.up
  pub fits : Fits me members o x
  pub node : adopted me members o x ≡ (settle me t).node
  pub log : o.moves.log ≡ told_length (settle me t).node

-- it is the event's
abbrev pub Planned : {B : Type 0} → (B → B → Bool) → ℕ → Event B → NodeState B → Outcome B → Type 0
Planned same members e x o = Settled (owner e) members x (on_event same members e (begun x)) o
