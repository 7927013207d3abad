-- What transports are handed, over every list of events (docs/CONSENSUS.md, "What holds over every list of events").
use Rattle.std.specs.Prelude.{◌≡◌, ◌≤◌, Bool, true, false, not, List, [], ◌∷◌, ◌++◌, take_while, ℕ}
use Rattle.paxos_packets.specs.declared.entry.Entry.{Entry}
use Rattle.paxos_packets.specs.declared.transport.Transport.{Transport}
use Rattle.replica_machine.specs.Effects.{is_boot}
use Rattle.replica_machine.specs.Replay.{Machine, said}
use Rattle.paxos_node.specs.declared.event.Event.{Event}
use Rattle.paxos_planning.specs.Node.{NodeState, Plan}
use Rattle.paxos_node.specs.Events.{owner, outcome_of}
use Rattle.cluster_world.specs.World.{World, node_at, played, log_of, log_before, handed}

-- the transport is one of its node's present boot, and that node is up
abbrev pub IsPresent : {B : Type 0} → Transport → NodeState B → Type 0
IsPresent t x = (x.up ≡ true) × (t.boot ≡ x.rows.boot)

-- a log before the first Boot of the transport's node and boot; all of it without one
abbrev pub before_boot : {B : Type 0} → Transport → List (Entry B) → List (Entry B)
before_boot t log = take_while (λ e. not (is_boot t.node t.boot e)) log

-- the log says nothing to a transport before its boot begins there
abbrev pub BeginsUnsaid : {B S Y : Type 0} → Machine B S Y → Transport → List (Entry B) → Type 0
BeginsUnsaid m t log = said m t (before_boot t log) ≡ []

-- a transport of a node's present boot was handed what the machine says to it along the node's log, if that says nothing to it before the boot
abbrev pub HandedIsSaid : (B : Type 0) → (B → B → Bool) → Type 0 → Type 0 → Type 0
HandedIsSaid B same S Y =
    (m : Machine B S Y) (members : ℕ) → members ≤ 7 → (events : List (Event B)) (t : Transport) →
    IsPresent t (node_at (played same members events).nodes t.node) → BeginsUnsaid m t (log_of (played same members events) t.node) →
    handed m t (played same members events) ≡ said m t (log_of (played same members events) t.node)

-- the log with which an event leaves its node, by what it makes of it: with what it applied in the event, a Lost of its own boot included
abbrev pub log_by : {B : Type 0} → World B → Event B → NodeState B → Plan B → List (Entry B)
log_by w e x o = log_before w e x o ++ o.applied

abbrev pub log_after : {B : Type 0} → (B → B → Bool) → ℕ → World B → Event B → List (Entry B)
log_after same members w e =
    log_by w e (node_at w.nodes (owner e)) (outcome_of same members e (node_at w.nodes (owner e)))

-- and once an event takes that node down it stays as it is then, whatever comes
abbrev pub HandedStays : (B : Type 0) → (B → B → Bool) → Type 0 → Type 0 → Type 0
HandedStays B same S Y =
    (m : Machine B S Y) (members : ℕ) → members ≤ 7 → (early : List (Event B)) (e : Event B) (later : List (Event B)) (t : Transport) →
    IsPresent t (node_at (played same members early).nodes t.node)
    → (node_at (played same members (early ++ e ∷ [])).nodes t.node).up ≡ false
    → BeginsUnsaid m t (log_after same members (played same members early) e) →
    handed m t (played same members ((early ++ e ∷ []) ++ later))
    ≡ said m t (log_after same members (played same members early) e)
