-- How a world goes on, event by event (docs/CONSENSUS.md, "The world").
use Rattle.std.specs.Prelude.{◌≡◌, ℕ, Bool, true, false, ◌&&◌, List, [], ◌∷◌, ◌++◌, length}
use Rattle.cluster_world.specs.Has.{Has}
use Rattle.paxos_packets.specs.declared.packet.Packet.{Packet}
use Rattle.paxos_node.specs.declared.event.Event.{Event}
use Rattle.paxos_node.specs.Events.{owner, possible, outcome_of}
use Rattle.cluster_world.specs.World.{World, node_at, is_among, was_sent, next, played}

-- the test that a packet was sent holds of just the packets that were
abbrev pub SentIsAmong : (B : Type 0) → (B → B → Bool) → Type 0
SentIsAmong B same =
    (p : Packet B) (sent : List (Packet B)) → (is_among same p sent ≡ true → Has sent p) × (Has sent p → is_among same p sent ≡ true)

-- there are as many nodes as members
abbrev pub NodesAreMembers : (B : Type 0) → (B → B → Bool) → Type 0
NodesAreMembers B same = (members : ℕ) (events : List (Event B)) → length (played same members events).nodes ≡ members

-- a list of events and one event more
abbrev pub OneEventMore : (B : Type 0) → (B → B → Bool) → Type 0
OneEventMore B same =
    (members : ℕ) (events : List (Event B)) (e : Event B)
    → played same members (events ++ e ∷ []) ≡ next same members (played same members events) e

-- whether an event does anything
abbrev pub may : {B : Type 0} → (B → B → Bool) → World B → Event B → Bool
may same w e = was_sent same e w.sent && possible e (node_at w.nodes (owner e))

-- what an event does: its node becomes what the event makes of it, no other node changes, and its packets are appended
pub record Goes {B : Type 0} (same : B → B → Bool) (members : ℕ) (w v : World B) (e : Event B) : Type 0 where
  pub mine : node_at v.nodes (owner e) ≡ (outcome_of same members e (node_at w.nodes (owner e))).node
  pub others : (k : ℕ) → (k ≡ owner e → ⊥) → node_at v.nodes k ≡ node_at w.nodes k
  pub sent : v.sent ≡ w.sent ++ (outcome_of same members e (node_at w.nodes (owner e))).packets

abbrev pub EventGoes : (B : Type 0) → (B → B → Bool) → Type 0
EventGoes B same = (members : ℕ) (w : World B) (e : Event B) → may same w e ≡ true → Goes same members w (next same members w e) e

-- and if it isn't possible, nothing changes
abbrev pub EventStays : (B : Type 0) → (B → B → Bool) → Type 0
EventStays B same = (members : ℕ) (w : World B) (e : Event B) → may same w e ≡ false → next same members w e ≡ w
