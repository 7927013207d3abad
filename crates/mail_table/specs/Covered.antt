-- What all views together say: some world that events lead to has just the nodes that they show (docs/ARCHITECTURE.md, "Threads").
use Rattle.std.specs.Prelude.{◌≡◌, ◌⊎◌, ◌<◌, ◌≤◌, ℕ, Bool, ◌==◌, List, if◌then◌else◌, MatchOption}
use Rattle.paxos_packets.specs.Members.{IsMember}
use Rattle.paxos_packets.specs.Rows.{last_boot, raised, first_rows}
use Rattle.paxos_packets.specs.declared.packet.Packet.{Packet}
use Rattle.paxos_packets.specs.declared.rows.Rows.{Rows}
use Rattle.paxos_planning.specs.Node.{NodeState}
use Rattle.paxos_node.specs.Applying.{down, started}
use Rattle.paxos_node.specs.View.{Viewed}
use Rattle.paxos_node.specs.declared.event.Event.{Event}
use Rattle.paxos_node.specs.declared.view.Opened.{Opened}
use Rattle.paxos_node.specs.declared.view.Opened.TheVariants.{Never, With}
use Rattle.paxos_node.specs.Events.{packet_in}
use Rattle.cluster_world.specs.Has.{Has}
use Rattle.cluster_world.specs.World.{node_at, played}

-- the node is one that would begin with these rows, were it opened now: it is in its first state, or down in the boot before
abbrev pub Stands : {B : Type 0} → ℕ → Rows B → NodeState B → Type 0
Stands {B} me r v =
    ((v ≡ started me first_rows) × (r ≡ first_rows)) ⊎ ((old : Rows B) × (v ≡ down old) × (old.boot < last_boot) × (r ≡ raised old))

-- rows that the nodes of some reached world would begin with
abbrev pub Agreed : {B : Type 0} → (B → B → Bool) → ℕ → (ℕ → Rows B) → Type 0
Agreed {B} same n rows =
    (events : List (Event B)) × ((k : ℕ) → IsMember n k → Stands k (rows k) (node_at (played same n events).nodes k))

-- a view shows a node: the very node if it was opened, otherwise one that would begin with these rows
abbrev pub Shows : {B : Type 0} → ℕ → Opened B → NodeState B → Rows B → NodeState B → Type 0
Shows me Never mine r v = Stands me r v
Shows me (With r0) mine r v = mine ≡ v

-- if a node was opened, these are the rows that it was opened with
abbrev pub Matches : {B : Type 0} → Opened B → Rows B → Type 0
Matches Never r = Unit {0}
Matches (With r0) r = r ≡ r0

-- a reached world that has just these nodes, and in which all that they sent was sent
pub record Covers {B : Type 0} (same : B → B → Bool) (n : ℕ) (seen : ℕ → Viewed B) (rows : ℕ → Rows B) : Type 0 where
  pub events : List (Event B)
  pub nodes : (k : ℕ) → IsMember n k → Shows k (seen k).opened (seen k).node (rows k) (node_at (played same n events).nodes k)
  pub sent : (k : ℕ) (p : Packet B) → IsMember n k → Has (seen k).sent p → Has (played same n events).sent p

-- for all rows of the nodes that nobody opened that with the opened ones' agree
abbrev pub Covered : {B : Type 0} → (B → B → Bool) → ℕ → (ℕ → Viewed B) → Type 0
Covered {B} same n seen =
    (rows : ℕ → Rows B) → ((k : ℕ) → IsMember n k → Matches (seen k).opened (rows k)) → Agreed same n rows → Covers same n seen rows

-- what an event asks of the other views: a packet is delivered that one of them sent
abbrev pub Fed : {B : Type 0} → ℕ → (ℕ → Viewed B) → Event B → Type 0
Fed n seen e = MatchOption (packet_in e) (Unit {0}) (λ p. (a : ℕ) × IsMember n a × Has (seen a).sent p)

-- the rows that a node may begin with anew: any if it was never opened, otherwise those of the view in a later boot
abbrev pub with_boot : {B : Type 0} → ℕ → Rows B → Rows B
with_boot boot rows = record rows { boot = boot }

abbrev pub MayRenew : {B : Type 0} → Opened B → NodeState B → Rows B → Type 0
MayRenew Never v r = Unit {0}
MayRenew (With r0) v r = (r ≡ with_boot r.boot v.rows) × (v.rows.boot < r.boot) × (r.boot ≤ last_boot)

-- at one place the function gives this, elsewhere what it gave
abbrev pub with_at : {A : Type 0} → (ℕ → A) → ℕ → A → ℕ → A
with_at f k y j = if j == k then y else f j
