-- What a node plans, and what it returns (docs/CONSENSUS.md, "One node").
use Rattle.std.specs.Prelude.{◌≡◌, ℕ, Bool, true, false, ◌&&◌, ◌==◌, Option, Some, None, [], ◌∷◌, ◌++◌, Result, Ok, Err, if◌then◌else◌}
use Rattle.paxos_packets.specs.Rows.{no_change}
use Rattle.paxos_packets.specs.declared.packet.Kind.{Kind}
use Rattle.paxos_packets.specs.declared.packet.Kind.TheVariants.{Snapshot}
use Rattle.paxos_node.specs.declared.event.Event.{Event}
use Rattle.paxos_node.specs.declared.event.Event.TheVariants.{Take, Tick, Suspect, Deliver, Crash, Restart}
use Rattle.paxos_node.specs.declared.fault.NodeFault.{NodeFault}
use Rattle.paxos_node.specs.declared.fault.NodeFault.TheVariants.{Rounds, Full, Disagree, Memory}
use Rattle.paxos_node.specs.declared.outcome.Outcome.{Outcome}
use Rattle.paxos_planning.specs.Node.{NodeState, Plan, log_length}
use Rattle.paxos_planning.specs.Replies.{brings_other}
use Rattle.paxos_packets.specs.declared.entry.Entry.{Entry}
use Rattle.paxos_planning.specs.Walking.{proposes_other}
use Rattle.paxos_node.specs.Adopting.{Settled}
use Rattle.paxos_node.specs.Applying.{settle}
use Rattle.paxos_node.specs.Events.{owner, possible, takes, has_room, new_item, new_lost}
use Rattle.paxos_node.specs.Snapshots.{is_damaged}

-- a crash and a restart are not planned: they lose what a node holds
abbrev pub is_planned : {B : Type 0} → Event B → Bool
is_planned (Crash n) = false
is_planned (Restart n) = false
is_planned _ = true

-- whether this node plans the event: its own, and possible
abbrev pub plans : {B : Type 0} → ℕ → Event B → NodeState B → Bool
plans me e x = (owner e == me) && (is_planned e && possible e x)

-- an outcome that changes nothing of a node with a log of this length
abbrev pub unchanged : {B : Type 0} → ℕ → Outcome B
unchanged log =
    record {
      change = no_change;
      packets = [];
      applied = [];
      is_down = false;
      moves = record { proposer = []; news = []; added = None; over = false; front = 0; log = log };
    }

-- the event disagrees with what this node learned: its packet brings another entry, or a snapshot that is none, or the node, as a leader,
-- votes for another entry

abbrev pub takes_other : {B : Type 0} → (B → B → Bool) → ℕ → ℕ → ℕ → B → NodeState B → Bool
takes_other same members me t body x =
    if takes x then proposes_other same members me (log_length x) x.learner x.proposer.role (x.pending ++ new_item me t body x ∷ [])
    else false

abbrev pub suspects_other : {B : Type 0} → (B → B → Bool) → ℕ → ℕ → Option (Entry B) → NodeState B → Bool
suspects_other same members me None x = false
suspects_other same members me (Some lost) x =
    if has_room x then proposes_other same members me (log_length x) x.learner x.proposer.role (x.pending ++ lost ∷ [])
    else false

abbrev pub delivers_other : {B : Type 0} → (B → B → Bool) → ℕ → ℕ → ℕ → Kind B → NodeState B → Bool
delivers_other same members me sender (Snapshot s) x = is_damaged s x
delivers_other same members me sender kind x = brings_other same members me sender kind x

abbrev pub finds_other : {B : Type 0} → (B → B → Bool) → ℕ → ℕ → Event B → NodeState B → Bool
finds_other same members me (Take n t body) x = takes_other same members me t body x
finds_other same members me (Tick n) x = proposes_other same members me (log_length x) x.learner x.proposer.role x.pending
finds_other same members me (Suspect n other) x = suspects_other same members me (new_lost same me other x) x
finds_other same members me (Deliver p) x = delivers_other same members me p.sender p.kind x
finds_other same members me _ x = false

-- it is the fault of memory
abbrev pub is_memory : {A : Type 0} → Result A NodeFault → Bool
is_memory (Ok x) = false
is_memory (Err Rounds) = false
is_memory (Err Full) = false
is_memory (Err Disagree) = false
is_memory (Err Memory) = true

-- the result: Rounds, Full and Disagree if these refusals hold, in this order; else P, or Memory, which says nothing of Disagree here
abbrev pub Answers : {A : Type 0} → Bool → Bool → Bool → (A → Type 0) → Result A NodeFault → Type 0
Answers rounds full other P (Ok x) = (rounds ≡ false) × (full ≡ false) × (other ≡ false) × P x
Answers rounds full other P (Err Rounds) = rounds ≡ true
Answers rounds full other P (Err Full) = full ≡ true
Answers rounds full other P (Err Disagree) = (rounds ≡ false) × (full ≡ false) × (other ≡ true)
Answers rounds full other P (Err Memory) = (rounds ≡ false) × (full ≡ false)

-- the same, of what is made of a node before what it would have learned is applied
abbrev pub Answered : {B : Type 0} → ℕ → ℕ → NodeState B → Bool → Bool → Plan B → Result (Outcome B) NodeFault → Type 0
Answered me members x rounds full t result = Answers rounds full (settle me t).disagrees (λ o. Settled me members x t o) result
