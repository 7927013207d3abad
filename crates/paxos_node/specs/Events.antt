-- One node in one event: a function of the event and the node alone (docs/CONSENSUS.md, "Events").
use Rattle.std.specs.Prelude.{ℕ, suc, Bool, false, not, ◌&&◌, nat_lt, ◌==◌, Option, Some, None, is_some, List, [], ◌∷◌, ◌++◌}
use Rattle.std.specs.Prelude.{length, if◌then◌else◌}
use Rattle.std.specs.List.{list_any}
use Rattle.paxos_packets.specs.Entry.{same_entry}
use Rattle.paxos_packets.specs.Rows.{last_boot, raised}
use Rattle.paxos_packets.specs.declared.entry.Entry.{Entry}
use Rattle.paxos_packets.specs.declared.entry.Entry.TheVariants.{Boot, Lost, Item}
use Rattle.paxos_packets.specs.declared.packet.Kind.{Kind}
use Rattle.paxos_packets.specs.declared.packet.Kind.TheVariants.{Snapshot}
use Rattle.paxos_packets.specs.declared.packet.Packet.{Packet}
use Rattle.replica_machine.specs.Roll.{live_in}
use Rattle.paxos_planning.specs.Node.{NodeState, Plan}
use Rattle.paxos_planning.specs.Plan.{with_pending, begun}
use Rattle.paxos_planning.specs.Proposals.{push}
use Rattle.paxos_planning.specs.Replies.{saw, on_packet}
use Rattle.paxos_planning.specs.Starting.{starts, on_start}
use Rattle.paxos_planning.specs.Ticking.{on_tick}
use Rattle.paxos_node.specs.declared.event.Event.{Event}
use Rattle.paxos_node.specs.declared.event.Event.TheVariants.{Take, Tick, Start, Suspect, Deliver, Cut, Crash, Restart}
use Rattle.paxos_node.specs.Applying.{standing_of, started, go_down, settle}
use Rattle.paxos_node.specs.Snapshots.{may_cut, on_cut, on_snapshot}

-- the greatest number of an act, and how many entries may be pending
unfoldable pub last_number : ℕ
last_number = 281474976710655

unfoldable pub most_pending : ℕ
most_pending = 1024

-- Take: the act is pending as the node's next Item

abbrev pub has_room : {B : Type 0} → NodeState B → Bool
has_room x = nat_lt (length x.pending) most_pending

abbrev pub takes : {B : Type 0} → NodeState B → Bool
takes x = has_room x && nat_lt x.taken last_number

abbrev pub new_item : {B : Type 0} → ℕ → ℕ → B → NodeState B → Entry B
new_item me transport body x = Item me x.rows.boot (suc x.taken) transport body

abbrev pub with_item : {B : Type 0} → ℕ → ℕ → B → NodeState B → NodeState B
with_item me transport body x = record x { pending = x.pending ++ new_item me transport body x ∷ []; taken = suc x.taken }

abbrev pub on_take : {B : Type 0} → (B → B → Bool) → ℕ → ℕ → ℕ → B → Plan B → Plan B
on_take same members me transport body o =
    if takes o.node then push same members me (record o { node = with_item me transport body o.node })
    else o

-- Suspect: another's Lost is pending

abbrev pub is_pending : {B : Type 0} → (B → B → Bool) → List (Entry B) → Entry B → Bool
is_pending same pending e = list_any (λ p. same_entry same p e) pending

-- the Lost of the other's live boot, unless it is pending already
abbrev pub new_lost_of : {B : Type 0} → (B → B → Bool) → ℕ → Option ℕ → List (Entry B) → Option (Entry B)
new_lost_of same other None pending = None
new_lost_of same other (Some b) pending = if is_pending same pending (Lost other b) then None else Some (Lost other b)

abbrev pub new_lost : {B : Type 0} → (B → B → Bool) → ℕ → ℕ → NodeState B → Option (Entry B)
new_lost same me other x = if other == me then None else new_lost_of same other (live_in (standing_of x other)) x.pending

abbrev pub suspected : {B : Type 0} → (B → B → Bool) → ℕ → ℕ → Option (Entry B) → Plan B → Plan B
suspected same members me None o = o
suspected same members me (Some lost) o =
    if has_room o.node then push same members me (record o { node = with_pending (o.node.pending ++ lost ∷ []) o.node })
    else o

abbrev pub on_suspect : {B : Type 0} → (B → B → Bool) → ℕ → ℕ → ℕ → Plan B → Plan B
on_suspect same members me other o = suspected same members me (new_lost same me other o.node) o

-- whose event it is
abbrev pub owner : {B : Type 0} → Event B → ℕ
owner (Take n t body) = n
owner (Tick n) = n
owner (Start n) = n
owner (Suspect n other) = n
owner (Deliver p) = p.addressee
owner (Cut n snapshot) = n
owner (Crash n) = n
owner (Restart n) = n

-- the packet that it delivers
abbrev pub packet_in : {B : Type 0} → Event B → Option (Packet B)
packet_in (Deliver p) = Some p
packet_in _ = None

-- whether it is possible at the node; what isn't changes nothing
abbrev pub possible : {B : Type 0} → Event B → NodeState B → Bool
possible (Take n t body) x = x.up && nat_lt 0 t
possible (Cut n snapshot) x = x.up && may_cut snapshot x
possible (Restart n) x = not x.up && nat_lt x.rows.boot last_boot
possible _ x = x.up

-- a packet: a snapshot is taken by the node as a whole
abbrev pub deliver : {B : Type 0} → (B → B → Bool) → ℕ → ℕ → ℕ → Kind B → Plan B → Plan B
deliver same members me sender (Snapshot s) o = on_snapshot me s o
deliver same members me sender kind o = on_packet same members me sender kind o

-- the node's part of an event, before what was learned is applied
abbrev pub on_event : {B : Type 0} → (B → B → Bool) → ℕ → Event B → Plan B → Plan B
on_event same members (Take n t body) o = on_take same members n t body o
on_event same members (Tick n) o = on_tick same members n o
on_event same members (Start n) o = on_start members n o
on_event same members (Suspect n other) o = on_suspect same members n other o
on_event same members (Deliver p) o = deliver same members p.addressee p.sender p.kind (record o { node = saw p.kind o.node })
on_event same members (Cut n snapshot) o = on_cut snapshot o
on_event same members (Crash n) o = go_down o
on_event same members (Restart n) o = record o { node = started n (raised o.node.rows) }

-- what an event makes of the node
abbrev pub outcome_of : {B : Type 0} → (B → B → Bool) → ℕ → Event B → NodeState B → Plan B
outcome_of same members e x = settle (owner e) (on_event same members e (begun x))

-- the refusals that an event may name: there is no round left; there is no room for the act or the suspicion
abbrev pub is_round_refused : {B : Type 0} → Event B → NodeState B → Bool
is_round_refused (Start n) x = not (starts n x)
is_round_refused _ x = false

abbrev pub is_full_refused : {B : Type 0} → (B → B → Bool) → Event B → NodeState B → Bool
is_full_refused same (Take n t body) x = not (takes x)
is_full_refused same (Suspect n other) x = is_some (new_lost same n other x) && not (has_room x)
is_full_refused same _ x = false

-- the acts, boots and suspicions that an event brings into the world
abbrev pub taken_by : {B : Type 0} → ℕ → ℕ → B → NodeState B → List (Entry B)
taken_by n t body x = if takes x then new_item n t body x ∷ [] else []

abbrev pub suspected_by : {B : Type 0} → Option (Entry B) → NodeState B → List (Entry B)
suspected_by None x = []
suspected_by (Some lost) x = if has_room x then lost ∷ [] else []

abbrev pub made_by : {B : Type 0} → (B → B → Bool) → Event B → NodeState B → List (Entry B)
made_by same (Take n t body) x = taken_by n t body x
made_by same (Suspect n other) x = suspected_by (new_lost same n other x) x
made_by same (Restart n) x = Boot n (suc x.rows.boot) ∷ []
made_by same _ x = []
