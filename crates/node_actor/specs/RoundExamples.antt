-- Rounds by hand, of three members: for the examples of the module `laws`.
use Rattle.std.specs.Prelude.{ℕ, suc, Some, None, [], ◌∷◌, List}
use Rattle.paxos_packets.specs.Packet.{packet}
use Rattle.paxos_packets.specs.declared.entry.Entry.{Entry}
use Rattle.paxos_packets.specs.declared.entry.Entry.TheVariants.{Noop, Item}
use Rattle.paxos_packets.specs.declared.packet.Kind.TheVariants.{Accept, Accepted, Ask, Forward}
use Rattle.paxos_packets.specs.declared.packet.Packet.{Packet}
use Rattle.paxos_packets.specs.declared.vote.Vote.{Vote}
use Rattle.paxos_node.specs.Examples.{ballot, first_node, promised_to, same_number}
use Rattle.paxos_planning.specs.Plan.{with_pending}
use Rattle.paxos_node.specs.View.{Viewed}
use Rattle.paxos_node.specs.declared.event.Event.{Event}
use Rattle.paxos_node.specs.declared.event.Event.TheVariants.{Take}
use Rattle.paxos_node.specs.declared.view.Opened.TheVariants.{Never}
use Rattle.paxos_planning.specs.Node.{NodeState}
use Rattle.node_actor.specs.EventLists.{sent_in}
use Rattle.actor_outboxes.specs.Outboxes.{due_of}
use Rattle.node_actor.specs.Rounds.{Look, made_own, held_own, made_of}

-- an act of node 1, told by its body
abbrev pub act : ℕ → Event ℕ
act body = Take 1 1 body

-- node 1 as it is first seen, and the same of another node state
abbrev pub seen_as : NodeState ℕ → Viewed ℕ
seen_as x = record { opened = Never; node = x; sent = [] }

-- node 1 that has applied the entries of two slots
abbrev pub two_applied : NodeState ℕ
two_applied = record first_node { applied = Noop ∷ Noop ∷ [] }

-- a vote of the first ballot of node 2 for a slot
abbrev pub vote_for : ℕ → Vote ℕ
vote_for slot = record { slot = slot; ballot = ballot 1 2; entry = Noop }

-- packets of node 2 to node 1, and one to another node
abbrev pub accept : ℕ → Packet ℕ
accept slot = packet 2 (Accept (vote_for slot)) 1

abbrev pub accepted : ℕ → Packet ℕ
accepted slot = packet 2 (Accepted (vote_for slot)) 1

abbrev pub astray : Packet ℕ
astray = packet 2 (Ask 1) 3

-- the acts of node 1 with these bodies as entries, numbered from this one on
abbrev pub items : ℕ → List ℕ → List (Entry ℕ)
items number [] = []
items number (body ∷ bodies) = Item 1 1 number 1 body ∷ items (suc number) bodies

-- what node 1 sends to node 2

abbrev pub asks : Packet ℕ
asks = packet 1 (Ask 1) 2

-- of own events at node 1 those that are made, and those that are held back

abbrev pub makes : List (Event ℕ) → NodeState ℕ → List (Event ℕ)
makes own x = made_own same_number 3 own x

abbrev pub holds : List (Event ℕ) → NodeState ℕ → List (Event ℕ)
holds own x = held_own same_number 3 own x

-- of packets that come to node 1 those that are treated
abbrev pub treats : List (Packet ℕ) → NodeState ℕ → List (Event ℕ)
treats packets x = made_of same_number 3 1 packets x

-- what it sends in these events, and what of it is due if it goes together

abbrev pub sends : List (Event ℕ) → NodeState ℕ → List (Packet ℕ)
sends events x = sent_in same_number 3 events (seen_as x)

abbrev pub posts : List (Event ℕ) → NodeState ℕ → List (Packet ℕ)
posts events x = due_of (sends events x)

-- what node 1 forwards to node 2 that has promised it a ballot
abbrev pub forward_of : List ℕ → Packet ℕ
forward_of bodies = packet 1 (Forward (items 1 bodies)) 2

-- a look that finds nothing, and looks that find packets
abbrev pub looks : List (Look ℕ)
looks = (2, Some (accept 1 ∷ accepted 1 ∷ [])) ∷ (3, None) ∷ (2, Some (accepted 2 ∷ [])) ∷ []

-- node 1 that has promised node 2 a ballot, and has nothing pending
abbrev pub follower : NodeState ℕ
follower = with_pending [] (promised_to 1 2)
