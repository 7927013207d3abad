-- Views of an actor: what is known of its node, and of the packets that it exchanged.
use Rattle.std.specs.Prelude.{◌≡◌, ℕ, Bool, true, ◌==◌, ◌&&◌, not, Option, Some, None, List, [], ◌++◌, All, Contains, filter, map, option_to_list}
use Rattle.circular_buffer.specs.Buffer.{keep_last}
use Rattle.paxos_packets.specs.Members.{is_member}
use Rattle.paxos_packets.specs.declared.packet.Packet.{Packet}
use Rattle.actor_outboxes.specs.Outboxes.{most_waiting, waiting, to, IsPeer}
use Rattle.paxos_node.specs.declared.event.Event.{Event}
use Rattle.paxos_node.specs.Events.{outcome_of, packet_in}
use Rattle.paxos_planning.specs.Node.{NodeState}
use Rattle.paxos_node.specs.View.{Viewed, moved}
use Rattle.mail_table.specs.Seats.{Seated}
use Rattle.mail_table.specs.Views.{box_of, through}
use Rattle.mail_table.specs.declared.part.Parcel.{Parcel}
use Rattle.node_actor.specs.Actor.{Acting}

-- the view of an actor is what its seat knows
abbrev pub View : Type 0 → Type 0
View B = Seated B

abbrev pub seen : {B : Type 0} → View B → Viewed B
seen v = v.part.seen

-- a packet that a node is handed: it is for the node, from another member
abbrev pub is_for : {B : Type 0} → ℕ → ℕ → Packet B → Bool
is_for me members p = (p.addressee == me) && (is_member members p.sender && not (p.sender == me))

abbrev pub packets_of : {B : Type 0} → List (Parcel B) → List (Packet B)
packets_of qs = map (λ q. q.packet) qs

-- the packets that it put into its box to a node, and those from a node that it took out of its boxes, oldest first

abbrev pub posted_to : {B : Type 0} → ℕ → View B → List (Packet B)
posted_to k v = through (box_of v.members v.part.me k) v.part.posted

abbrev pub received_from : {B : Type 0} → ℕ → View B → List (Packet B)
received_from k v = filter (λ p. p.sender == k) (filter (is_for v.part.me v.members) (packets_of v.part.received))

-- the actor is the view's: this is what its seat knows, its node is the view's node, if it is up, and has that one's rows, and what waits
-- is among what that sent
pub record StandsFor {B M K : Type 0} (a : Acting B M K) (v : View B) : Type 0 where
  pub seat : a.seat ≡ v
  pub node : a.node.state.up ≡ true → a.node.state ≡ (seen v).node
  pub rows : a.node.state.rows ≡ (seen v).node.rows
  pub waits : (k : ℕ) → IsPeer a.node.me a.node.members k → All (Contains (seen v).sent) (waiting k a.waiting)

-- the view goes on by an event, or by none
abbrev pub moved_by : {B : Type 0} → (B → B → Bool) → ℕ → Option (Event B) → Viewed B → Viewed B
moved_by same members None s = s
moved_by same members (Some e) s = moved (outcome_of same members e s.node).node (outcome_of same members e s.node).packets s

-- the packets that an event sends, and the packet that it receives
abbrev pub sent_by : {B : Type 0} → (B → B → Bool) → ℕ → Option (Event B) → NodeState B → List (Packet B)
sent_by same members None x = []
sent_by same members (Some e) x = (outcome_of same members e x).packets

abbrev pub received_by : {B : Type 0} → Option (Event B) → List (Packet B)
received_by None = []
received_by (Some e) = option_to_list (packet_in e)

-- of what waited for a peer the first ones were posted meanwhile, and these packets wait after the rest, in the last places
pub record Queues {B M K : Type 0} (k : ℕ) (packets : List (Packet B)) (old new : Acting B M K) (v w : View B) : Type 0 where
  pub meanwhile : List (Packet B)
  pub rest : List (Packet B)
  pub posted : posted_to k w ≡ posted_to k v ++ meanwhile
  pub waited : waiting k old.waiting ≡ meanwhile ++ rest
  pub waits : waiting k new.waiting ≡ keep_last most_waiting (rest ++ to k packets)
