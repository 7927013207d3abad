-- All nodes, all packets ever sent, and what an event makes of them (docs/CONSENSUS.md, "The world").
use Rattle.std.specs.Prelude.{ℕ, zero, suc, Bool, true, false, ◌&&◌, ◌==◌, Option, Some, None, is_some, List, [], ◌∷◌, ◌++◌, filter, fold}
use Rattle.std.specs.Prelude.{slice_index_or}
use Rattle.std.specs.Prelude.{slice_set, if◌then◌else◌}
use Rattle.std.specs.List.{list_any, find, flat_map}
use Rattle.std.specs.Option.{option_map_or}
use Rattle.paxos_packets.specs.Packet.{same_packet}
use Rattle.paxos_packets.specs.Snapshot.{Snapshot, floor_in, same_snapshot}
use Rattle.paxos_packets.specs.declared.entry.Entry.{Entry}
use Rattle.paxos_packets.specs.declared.entry.Entry.TheVariants.{Boot}
use Rattle.paxos_packets.specs.declared.packet.Packet.{Packet}
use Rattle.paxos_packets.specs.declared.transport.Transport.{Transport}
use Rattle.replica_machine.specs.Replay.{Machine, sayings_behind}
use Rattle.paxos_packets.specs.Transport.{same_transport}
use Rattle.paxos_node.specs.declared.event.Event.{Event}
use Rattle.paxos_node.specs.declared.event.Event.TheVariants as occurred
use Rattle.paxos_planning.specs.Node.{NodeState, Plan}
use Rattle.paxos_node.specs.Applying.{down, started}
use Rattle.paxos_packets.specs.Rows.{last_boot, bare_rows, first_rows}
use Rattle.paxos_node.specs.Events.{owner, packet_in, possible, outcome_of, made_by}

-- the entries that a node applied in one event: in which boot, after which whole log
pub record Applied (B : Type 0) : Type 0 where
  pub node : ℕ
  pub boot : ℕ
  pub log : List (Entry B)
  pub entries : List (Entry B)

-- a snapshot that a node made, and the whole log that it was made from
pub record Cut (B : Type 0) : Type 0 where
  pub snapshot : Snapshot
  pub log : List (Entry B)

-- the nodes from number 1 on; every packet ever sent, oldest first; every act that was taken, as its Item, every boot that a
-- node had and every suspicion, as its Lost; what was applied, event by event; and every snapshot that a node made
pub record World (B : Type 0) : Type 0 where
  pub nodes : List (NodeState B)
  pub sent : List (Packet B)
  pub made : List (Entry B)
  pub applied : List (Applied B)
  pub cuts : List (Cut B)

-- what is no member: down for ever, since no boot is left
abbrev pub absent : {B : Type 0} → NodeState B
absent = down (bare_rows last_boot)

abbrev pub node_at : {B : Type 0} → List (NodeState B) → ℕ → NodeState B
node_at nodes zero = absent
node_at nodes (suc k) = slice_index_or nodes k absent

abbrev pub put_node : {B : Type 0} → List (NodeState B) → ℕ → NodeState B → List (NodeState B)
put_node nodes zero x = nodes
put_node nodes (suc k) x = slice_set nodes k x

-- the first world: all nodes up in their first boot, and nothing sent

abbrev pub founded : {B : Type 0} → ℕ → List (NodeState B)
founded zero = []
founded (suc n) = founded n ++ started (suc n) first_rows ∷ []

abbrev pub first_boots : {B : Type 0} → ℕ → List (Entry B)
first_boots zero = []
first_boots (suc n) = first_boots n ++ Boot (suc n) 1 ∷ []

abbrev pub first_world : {B : Type 0} → ℕ → World B
first_world members = record { nodes = founded members; sent = []; made = first_boots members; applied = []; cuts = [] }

-- a packet is delivered only if an equal one was sent; no other event reads what was sent

abbrev pub is_among : {B : Type 0} → (B → B → Bool) → Packet B → List (Packet B) → Bool
is_among same p sent = list_any (λ q. same_packet same q p) sent

abbrev pub is_none_or_among : {B : Type 0} → (B → B → Bool) → Option (Packet B) → List (Packet B) → Bool
is_none_or_among same None sent = true
is_none_or_among same (Some p) sent = is_among same p sent

abbrev pub was_sent : {B : Type 0} → (B → B → Bool) → Event B → List (Packet B) → Bool
was_sent same e sent = is_none_or_among same (packet_in e) sent

-- logs, slot 1 first: up to its floor a node's log is the one that its snapshot was made from

-- what a snapshot stands for; nothing without one
abbrev pub under : {B : Type 0} → List (Cut B) → Option Snapshot → List (Entry B)
under cuts None = []
under cuts (Some s) = option_map_or (λ c. c.log) (find (λ c. same_snapshot c.snapshot s) cuts) []

-- the whole log of a node; it is empty while the node is down
abbrev pub whole_log : {B : Type 0} → List (Cut B) → NodeState B → List (Entry B)
whole_log cuts x = if x.up then under cuts x.rows.snapshot ++ x.applied else []

abbrev pub log_of : {B : Type 0} → World B → ℕ → List (Entry B)
log_of w k = whole_log w.cuts (node_at w.nodes k)

-- what a node shows of it: the floor, and the entries above it
abbrev pub floor_of : {B : Type 0} → World B → ℕ → ℕ
floor_of w k = floor_in (node_at w.nodes k).rows.snapshot

abbrev pub entries_of : {B : Type 0} → World B → ℕ → List (Entry B)
entries_of w k = (node_at w.nodes k).applied

-- the log after which the entries of an event are applied: that of a snapshot which came in a packet and was taken, or the node's own

abbrev pub log_over : {B : Type 0} → World B → NodeState B → Bool → Option Snapshot → List (Entry B)
log_over w x true (Some s) = under w.cuts (Some s)
log_over w x true None = whole_log w.cuts x
log_over w x false snapshot = whole_log w.cuts x

abbrev pub log_before : {B : Type 0} → World B → Event B → NodeState B → Plan B → List (Entry B)
log_before w e x o = log_over w x (is_some (packet_in e)) o.change.snapshot

-- what a node cuts
abbrev pub cut_from : {B : Type 0} → World B → ℕ → Option Snapshot → List (Cut B)
cut_from w n None = []
cut_from w n (Some s) = record { snapshot = s; log = log_of w n } ∷ []

abbrev pub cut_by : {B : Type 0} → World B → Event B → List (Cut B)
cut_by w (occurred.Cut n snapshot) = cut_from w n snapshot
cut_by w _ = []

-- one node changes, and packets are sent
abbrev pub done : {B : Type 0} → (B → B → Bool) → World B → Event B → NodeState B → Plan B → World B
done same w e x o =
    record {
      nodes = put_node w.nodes (owner e) o.node;
      sent = w.sent ++ o.packets;
      made = w.made ++ made_by same e x;
      applied = w.applied ++ record { node = owner e; boot = x.rows.boot; log = log_before w e x o; entries = o.applied } ∷ [];
      cuts = w.cuts ++ cut_by w e;
    }

-- what an event makes of the world; nothing, if it isn't possible
abbrev pub next : {B : Type 0} → (B → B → Bool) → ℕ → World B → Event B → World B
next same members w e =
    if was_sent same e w.sent && possible e (node_at w.nodes (owner e))
    then done same w e (node_at w.nodes (owner e)) (outcome_of same members e (node_at w.nodes (owner e)))
    else w

abbrev pub play : {B : Type 0} → (B → B → Bool) → ℕ → List (Event B) → World B → World B
play same members events w = fold (next same members) w events

-- the world that a list of events leads to
abbrev pub played : {B : Type 0} → (B → B → Bool) → ℕ → List (Event B) → World B
played same members events = play same members events (first_world members)

-- what a transport was handed: what a machine that follows the log says to it, wherever its own node applied entries in its boot

abbrev pub handed_at : {B S Y : Type 0} → Machine B S Y → Transport → Applied B → List Y
handed_at m t a =
    if (a.node == t.node) && (a.boot == t.boot) then filter (λ y. same_transport (m.to y) t) (sayings_behind m a.log a.entries) else []

abbrev pub handed_in : {B S Y : Type 0} → Machine B S Y → Transport → List (Applied B) → List Y
handed_in m t applied = flat_map (handed_at m t) applied

abbrev pub handed : {B S Y : Type 0} → Machine B S Y → Transport → World B → List Y
handed m t w = handed_in m t w.applied
