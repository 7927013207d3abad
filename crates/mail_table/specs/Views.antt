-- What a seat knows of one node, and what each step adds to it (docs/ARCHITECTURE.md, "Threads").
use Rattle.std.specs.Prelude.{ℕ, zero, suc, ◌+◌, ◌*◌, ◌==◌, Bool, true, false, List, [], ◌∷◌, ◌++◌, map, if◌then◌else◌}
use Rattle.paxos_packets.specs.declared.packet.Packet.{Packet}
use Rattle.paxos_packets.specs.declared.rows.Rows.{Rows}
use Rattle.paxos_planning.specs.Node.{NodeState, told_length}
use Rattle.paxos_node.specs.Applying.{started}
use Rattle.paxos_node.specs.View.{Viewed, moved}
use Rattle.paxos_node.specs.declared.view.Opened.{Opened}
use Rattle.paxos_node.specs.declared.view.Opened.TheVariants.{Never, With}
use Rattle.cluster_world.specs.World.{absent}
use Rattle.mail_table.specs.declared.part.Doing.{Doing}
use Rattle.mail_table.specs.declared.part.Doing.TheVariants.{Idle, Sending, Taking}
use Rattle.mail_table.specs.declared.part.Parcel.{Parcel}
use Rattle.mail_table.specs.declared.part.Part.{Part}
use Rattle.mail_table.specs.declared.part.Try.{Try}

-- the place of a node, from 0, and the number of the box from one node of n to another; the seven after it are at no box, so that no two
-- boxes have words within 64 octets, which a processor takes and hands on together

abbrev pub place : ℕ → ℕ
place zero = zero
place (suc k) = k

abbrev pub box_of : ℕ → ℕ → ℕ → ℕ
box_of n from to = 8 * (place from * n + place to)

-- the packets that went through a box, oldest first
abbrev pub through : {B : Type 0} → ℕ → List (Parcel B) → List (Packet B)
through at [] = []
through at (q ∷ qs) = if q.at == at then q.packet ∷ through at qs else through at qs

abbrev pub is_sending : Doing → ℕ → Bool
is_sending Idle at = false
is_sending (Sending i) at = i == at
is_sending (Taking i) at = false

abbrev pub is_taking : Doing → ℕ → Bool
is_taking Idle at = false
is_taking (Sending i) at = false
is_taking (Taking i) at = i == at

-- what a seat knows of a node that nobody opened yet
abbrev pub unopened : {B : Type 0} → ℕ → Part B
unopened me =
    record {
      me = me;
      doing = Idle;
      posted = [];
      received = [];
      tried = [];
      events = 0;
      seen = record { opened = Never; node = absent; sent = [] };
    }

-- the length of a node's log, as a view shows it: the slot of its last entry, or 0 if the node is down or was never opened

abbrev pub length_shown : {B : Type 0} → Opened B → NodeState B → ℕ
length_shown Never v = 0
length_shown (With r) v = told_length v

abbrev pub length_in : {B : Type 0} → Viewed B → ℕ
length_in seen = length_shown seen.opened seen.node

-- the part in a view that has one
abbrev pub only : {B : Type 0} → List (Part B) → Part B
only [] = unopened 0
only (x ∷ xs) = x

-- packets, each as a parcel that went through a box
abbrev pub parcels : {B : Type 0} → ℕ → List (Packet B) → List (Parcel B)
parcels at ps = map (λ p. record { at = at; packet = p }) ps

-- what the steps of posting and fetching packets, of an event and of a renewal add

abbrev pub claiming : {B : Type 0} → ℕ → Part B → Part B
claiming at x = record x { doing = Sending at; tried = x.tried ++ record { at = at; won = true } ∷ [] }

abbrev pub delivering : {B : Type 0} → ℕ → List (Packet B) → Part B → Part B
delivering at ps x = record x { doing = Idle; posted = x.posted ++ parcels at ps }

abbrev pub fetching : {B : Type 0} → ℕ → List (Packet B) → Part B → Part B
fetching at ps x =
    record x {
      doing = Taking at;
      received = x.received ++ parcels at ps;
      tried = x.tried ++ record { at = at; won = true } ∷ [];
    }

abbrev pub clearing : {B : Type 0} → Part B → Part B
clearing x = record x { doing = Idle }

abbrev pub lost : {B : Type 0} → ℕ → Part B → Part B
lost at x = record x { tried = x.tried ++ record { at = at; won = false } ∷ [] }

-- one event more, of which the word is not asked: the node is this one now, and sent these packets
abbrev pub moving : {B : Type 0} → NodeState B → List (Packet B) → Part B → Part B
moving node packets x = record x { events = suc x.events; seen = moved node packets x.seen }

-- a node is opened with rows once, and begins anew with others after that
abbrev pub opened_with : {B : Type 0} → Rows B → Opened B → Opened B
opened_with r Never = With r
opened_with r (With q) = With q

abbrev pub reopened : {B : Type 0} → ℕ → Rows B → Viewed B → Viewed B
reopened me r seen = record { opened = opened_with r seen.opened; node = started me r; sent = seen.sent }

abbrev pub renewing : {B : Type 0} → Rows B → Part B → Part B
renewing r x = record x { events = suc x.events; seen = reopened x.me r x.seen }

-- packets were posted together, or received together, in this order: both steps of it

abbrev pub posting_all : {B : Type 0} → ℕ → List (Packet B) → Part B → Part B
posting_all at ps x = delivering at ps (claiming at x)

abbrev pub receiving_all : {B : Type 0} → ℕ → List (Packet B) → Part B → Part B
receiving_all at ps x = clearing (fetching at ps x)

-- the same of one packet

abbrev pub posting : {B : Type 0} → ℕ → Packet B → Part B → Part B
posting at p x = posting_all at (p ∷ []) x

abbrev pub receiving : {B : Type 0} → ℕ → Packet B → Part B → Part B
receiving at p x = receiving_all at (p ∷ []) x
