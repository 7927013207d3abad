-- Snapshots at an actor: after which log an event applies its entries, what it hands out then, how an actor cuts, and with which log it begins
-- (docs/CONSENSUS.md, "A node with its store").
use Rattle.std.specs.Prelude.{◌≡◌, ℕ, Bool, Option, Some, None, is_some, List, [], ◌++◌, if◌then◌else◌}
use Rattle.paxos_packets.specs.Snapshot as taken
use Rattle.paxos_packets.specs.declared.entry.Entry.{Entry}
use Rattle.paxos_node.specs.Applying.{base}
use Rattle.paxos_node.specs.Events.{owner, outcome_of, packet_in}
use Rattle.paxos_node.specs.Snapshots.{may_cut}
use Rattle.paxos_node.specs.declared.event.Event.{Event}
use Rattle.paxos_node.specs.declared.event.Event.TheVariants.{Cut}
use Rattle.paxos_planning.specs.Node.{NodeState}
use Rattle.replica_machine.specs.Given.{AreGiven}
use Rattle.replica_machine.specs.Log.{LogState, IsLogOf, first_log}
use Rattle.replica_machine.specs.Replay.{Machine, Steps}
use Rattle.replica_machine.specs.Roll.{standing}
use Rattle.cluster_world.specs.MemberSnapshots.{taken_over, log_from, under_from, Brings}
pub use Rattle.cluster_world.specs.MemberSnapshots.{own_cut}
use Rattle.actor_parts.specs.Handing.{handed_out}
use Rattle.actor_parts.specs.Snapshots.{is_no_log, IsMadeOf}
use Rattle.node_actor.specs.Actor.{Acting}

-- of which log each snapshot is taken to be
abbrev pub Logs : Type 0 → Type 0
Logs B = taken.Snapshot → List (Entry B)

-- that log; nothing without a snapshot
abbrev pub log_at : {B : Type 0} → Logs B → Option taken.Snapshot → List (Entry B)
log_at logs None = []
log_at logs (Some s) = logs s

module _ {B : Type 0} (same : B → B → Bool) (members : ℕ) where
  -- the snapshot that an event, if there is one, takes over at a node: one that comes in its packet
  abbrev pub takes_over : Option (Event B) → NodeState B → Option taken.Snapshot
  takes_over None x = None
  takes_over (Some e) x = taken_over (is_some (packet_in e)) (outcome_of same members e x).change.snapshot

  -- no log is made of it
  abbrev pub takes_no_log : {S : Type 0} → (List ℕ → Option S) → Option (Event B) → NodeState B → Bool
  takes_no_log loaded e x = is_no_log loaded (takes_over e x)

  -- it is of the log of which it is taken to be
  abbrev pub TakesLog : {S Y : Type 0} → (List ℕ → Option S) → Machine B S Y → Logs B → Option (Event B) → NodeState B → Type 0
  TakesLog loaded m logs e x = Brings loaded m (log_at logs (takes_over e x)) (takes_over e x)

  -- if a node's log up to the floor is `under`: the log after which an event applies its entries, and the log up to the floor after it

  abbrev pub log_before : Logs B → List (Entry B) → Option (Event B) → NodeState B → List (Entry B)
  log_before logs under None x = under ++ x.applied
  log_before logs under (Some e) x =
      log_from (is_some (packet_in e)) (outcome_of same members e x).change.snapshot under
      (log_at logs (outcome_of same members e x).change.snapshot) x.applied

  abbrev pub under_after : Logs B → List (Entry B) → Option (Event B) → NodeState B → List (Entry B)
  under_after logs under None x = under
  under_after logs under (Some e) x =
      under_from (is_some (packet_in e)) (outcome_of same members e x).change.snapshot under
      (log_at logs (outcome_of same members e x).change.snapshot) x.applied

  -- what an event says to the transports of its node in its present boot, of any slot that it applies
  abbrev pub handed_by : {S Y : Type 0} → Machine B S Y → Logs B → List (Entry B) → Option (Event B) → NodeState B → List Y
  handed_by m logs under None x = []
  handed_by m logs under (Some e) x =
      handed_out m (owner e) x.rows.boot (log_before logs under (Some e) x) (outcome_of same members e x).applied

-- the event of a node that cuts to this snapshot, if it is possible
abbrev pub cut_to : {B : Type 0} → ℕ → Option taken.Snapshot → NodeState B → Option (Event B)
cut_to me snapshot x = if may_cut snapshot x then Some (Cut me snapshot) else None

-- the actor's log is this one from the floor on: its machine has followed it, the nodes stand so at the floor, and it has entries of nodes 1 to 7
-- alone
pub record HasUnder {B S Y M K : Type 0} (steps : Steps B S Y) (content : M → S) (first : S) (under : List (Entry B)) (a : Acting B M K) : Type 0
  where
    pub log : IsLogOf steps content first under a.log
    pub stands : (k : ℕ) → base a.node.state.rows k ≡ standing k under
    pub given : AreGiven (under ++ a.log.applied)

-- the log with which an actor begins: the empty one with the machine that it is given, or one that is made of the snapshot in its rows
abbrev pub IsFirstLog : {B M S : Type 0} → (M → S) → (List ℕ → Option S) → M → Option taken.Snapshot → LogState B M → Type 0
IsFirstLog content loaded machine None log = log ≡ first_log machine
IsFirstLog content loaded machine (Some s) log = IsMadeOf content loaded (Some s) (Some log)

-- the log up to the floor with which it begins, with a machine of this first content
abbrev pub BeginsAfter : {B M S Y : Type 0} → (M → S) → (List ℕ → Option S) → Machine B S Y → M → List (Entry B) → Option taken.Snapshot → Type 0
BeginsAfter content loaded m machine under None = (under ≡ []) × (content machine ≡ m.first)
BeginsAfter content loaded m machine under (Some s) = Brings loaded m under (Some s)
