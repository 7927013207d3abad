-- Scripts: a cluster's schedule, line by line (docs/CONSENSUS.md, "Scripts").
use Rattle.std.specs.Prelude.{◌≡◌, ℕ, zero, suc, ◌-◌, Bool, not, ◌&&◌, ◌==◌, Option, Some, None, List, [], ◌∷◌, ◌++◌, slice_get, fold}
use Rattle.std.specs.List.{find, enumerate_from, list_any}
use Rattle.paxos_packets.specs.Members.{is_member, is_in}
use Rattle.paxos_packets.specs.declared.packet.Packet.{Packet}
use Rattle.paxos_node.specs.declared.event.Event.{Event}
use Rattle.paxos_node.specs.declared.event.Event.TheVariants.{Deliver}
use Rattle.replica_machine.specs.Replay.{Machine}
use Rattle.cluster_world.specs.Saving.{next_of, played_of}
use Rattle.cluster_world.specs.World.{World, first_world, next}

-- a line of a script: an event; the delivery of the packet with this number in the list ever sent, from 1; or the delivery of each
-- packet that no line has delivered and whose both ends are members in the set, lowest number first, those that come meanwhile too
pub data Line (B : Type 0) : Type 0 where
  Happens : (event : Event B) → Line B
  Packet_no : (number : ℕ) → Line B
  Flush : (among : List Bool) → Line B

-- how far a script is: the world, the events that led to it, and the numbers of the packets that lines have delivered
pub record Stage (B : Type 0) : Type 0 where
  pub world : World B
  pub events : List (Event B)
  pub delivered : List ℕ

abbrev pub first_stage : {B : Type 0} → ℕ → Stage B
first_stage members = record { world = first_world members; events = []; delivered = [] }

-- a Cut has what the node's machine saves
abbrev pub happen : {B S Y : Type 0} → (S → List ℕ) → Machine B S Y → (B → B → Bool) → ℕ → Event B → Stage B → Stage B
happen saved m same members e s =
    record { world = next_of saved m same members s.world e; events = s.events ++ e ∷ []; delivered = s.delivered }

-- the packet reaches its addressee; so it counts as delivered, also if that is down
abbrev pub deliver : {B : Type 0} → (B → B → Bool) → ℕ → ℕ → Packet B → Stage B → Stage B
deliver same members number p s =
    record { world = next same members s.world (Deliver p); events = s.events ++ Deliver p ∷ []; delivered = number ∷ s.delivered }

-- what has not been sent yet is not delivered, and a flush brings it later
abbrev pub deliver_no : {B : Type 0} → (B → B → Bool) → ℕ → ℕ → Option (Packet B) → Stage B → Stage B
deliver_no same members number None s = s
deliver_no same members number (Some p) s = deliver same members number p s

-- ---- a flush

abbrev pub is_delivered : List ℕ → ℕ → Bool
is_delivered delivered number = list_any (λ n. n == number) delivered

abbrev pub is_listed : ℕ → List Bool → ℕ → Bool
is_listed members among node = is_member members node && is_in among node

abbrev pub is_due : {B : Type 0} → ℕ → List Bool → List ℕ → ℕ → Packet B → Bool
is_due members among delivered number p =
    not (is_delivered delivered number) && (is_listed members among p.sender && is_listed members among p.addressee)

-- the first packet that is due, with its number
abbrev pub first_due : {B : Type 0} → ℕ → List Bool → Stage B → Option (ℕ × Packet B)
first_due members among s = find (λ e. is_due members among s.delivered e.0 e.1) (enumerate_from 1 s.world.sent)

abbrev pub deliver_first : {B : Type 0} → (B → B → Bool) → ℕ → Option (ℕ × Packet B) → Stage B → (Stage B → Stage B) → Stage B
deliver_first same members None s go = s
deliver_first same members (Some e) s go = go (deliver same members e.0 e.1 s)

-- the first packet that is due, then the first that is due then, until none is, or this many were delivered
abbrev pub flush : {B : Type 0} → (B → B → Bool) → ℕ → List Bool → ℕ → Stage B → Stage B
flush same members among zero s = s
flush same members among (suc more) s =
    deliver_first same members (first_due members among s) s (λ z. flush same members among more z)

-- how many packets one flush delivers at the most
unfoldable pub most_deliveries : ℕ
most_deliveries = 100000

-- ---- lines

abbrev pub take_line : {B S Y : Type 0} → (S → List ℕ) → Machine B S Y → (B → B → Bool) → ℕ → Stage B → Line B → Stage B
take_line saved m same members s (Happens e) = happen saved m same members e s
take_line saved m same members s (Packet_no number) = deliver_no same members number (slice_get s.world.sent (number - 1)) s
take_line saved m same members s (Flush among) = flush same members among most_deliveries s

-- the stage after these lines
abbrev pub stage_behind : {B S Y : Type 0} → (S → List ℕ) → Machine B S Y → (B → B → Bool) → ℕ → List (Line B) → Stage B → Stage B
stage_behind saved m same members lines s = fold (take_line saved m same members) s lines

abbrev pub run_script : {B S Y : Type 0} → (S → List ℕ) → Machine B S Y → (B → B → Bool) → ℕ → List (Line B) → Stage B
run_script saved m same members lines = stage_behind saved m same members lines (first_stage members)

-- ---- a script's world is the one that its events lead to, each flush written out
abbrev pub ScriptsArePlayed : (B : Type 0) → (B → B → Bool) → Type 0 → Type 0 → Type 0
ScriptsArePlayed B same S Y =
    (saved : S → List ℕ) (m : Machine B S Y) (members : ℕ) (lines : List (Line B)) →
    (run_script saved m same members lines).world ≡ played_of saved m same members (run_script saved m same members lines).events
