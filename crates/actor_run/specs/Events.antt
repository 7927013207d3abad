-- Lists of events at one node: what they ask of it, and what they make of a view of it.
use Rattle.std.specs.Prelude.{ℕ, ◌==◌, ◌&&◌, nat_lt, Bool, false, Some, List, [], ◌∷◌, ◌++◌, if◌then◌else◌}
use Rattle.std.specs.List.{flat_map}
use Rattle.paxos_packets.specs.declared.entry.Entry.{Entry}
use Rattle.paxos_packets.specs.declared.entry.Entry.TheVariants.{Noop, Boot, Lost, Item}
use Rattle.paxos_node.specs.declared.event.Event.{Event}
use Rattle.paxos_node.specs.declared.event.Event.TheVariants.{Take, Cut}
use Rattle.paxos_node.specs.Events.{taken_by}
use Rattle.paxos_node.specs.View.{Viewed}
use Rattle.paxos_planning.specs.Node.{NodeState}
use Rattle.node_actor.specs.Views.{moved_by}
pub use Rattle.node_actor.specs.EventLists.{behind, said_in, under_in, TakeLogs}

-- the acts that events ask of a node, each by its transport and its body: a Take of the node's own, of a transport from 1 on

abbrev pub asked_by : {B : Type 0} → ℕ → Event B → List (ℕ × B)
asked_by me (Take n t body) = if (n == me) && nat_lt 0 t then (t, body) ∷ [] else []
asked_by me _ = []

abbrev pub asked_in : {B : Type 0} → ℕ → List (Event B) → List (ℕ × B)
asked_in me events = flat_map (asked_by me) events

-- a cut of the node
abbrev pub is_own_cut : {B : Type 0} → ℕ → Event B → Bool
is_own_cut me (Cut n snapshot) = n == me
is_own_cut me _ = false

-- the acts among entries, each by its transport and its body

abbrev pub act_in : {B : Type 0} → Entry B → List (ℕ × B)
act_in Noop = []
act_in (Boot n b) = []
act_in (Lost n b) = []
act_in (Item n b q t body) = (t, body) ∷ []

abbrev pub acts_in : {B : Type 0} → List (Entry B) → List (ℕ × B)
acts_in entries = flat_map act_in entries

-- the act that an event adds to those that its node has taken
abbrev pub gained_by : {B : Type 0} → Event B → NodeState B → List (Entry B)
gained_by (Take n t body) x = taken_by n t body x
gained_by _ x = []

module _ {B : Type 0} (same : B → B → Bool) (members : ℕ) where
  -- the acts that the view's node takes in them
  abbrev pub gained_in : List (Event B) → Viewed B → List (Entry B)
  gained_in [] s = []
  gained_in (e ∷ es) s = gained_by e s.node ++ gained_in es (moved_by same members (Some e) s)
