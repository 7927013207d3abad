-- A world whose nodes cut by what their machines save: each Cut carries the octets that are saved of its node's log
-- (docs/CONSENSUS.md, "The world").
use Rattle.std.specs.Prelude.{ℕ, Bool, Option, Some, None, List, [], ◌∷◌, fold, length}
use Rattle.paxos_packets.specs.declared.entry.Entry.{Entry}
use Rattle.paxos_packets.specs.Snapshot.{Snapshot}
use Rattle.replica_machine.specs.Replay.{Machine}
pub use Rattle.replica_machine.specs.Snapshot.{kept_after}
use Rattle.replica_machine.specs.Snapshot.{kept_octets}
use Rattle.paxos_node.specs.declared.event.Event.{Event}
use Rattle.paxos_node.specs.declared.event.Event.TheVariants.{Cut}
use Rattle.cluster_world.specs.World.{World, first_world, log_of, next}

module _ {B S Y : Type 0} (saved : S → List ℕ) (m : Machine B S Y) where
  -- its octets as a snapshot; of the empty log there is none
  abbrev pub saved_of : List (Entry B) → Option Snapshot
  saved_of [] = None
  saved_of (e ∷ es) = Some (record { floor = length (e ∷ es); octets = kept_octets saved (kept_after m (e ∷ es)) })

  -- the event as it happens in the world: a Cut has what is saved of its node's log, whatever it carried
  abbrev pub told : World B → Event B → Event B
  told w (Cut n snapshot) = Cut n (saved_of (log_of w n))
  told w e = e

  -- what an event makes of the world, and the world that a list of events leads to, so
  abbrev pub next_of : (B → B → Bool) → ℕ → World B → Event B → World B
  next_of same members w e = next same members w (told w e)

  abbrev pub played_of : (B → B → Bool) → ℕ → List (Event B) → World B
  played_of same members events = fold (next_of same members) (first_world members) events

  -- these events, each as it happens in turn
  abbrev pub tell_all : (B → B → Bool) → ℕ → World B → List (Event B) → List (Event B)
  tell_all same members w [] = []
  tell_all same members w (e ∷ es) = told w e ∷ tell_all same members (next_of same members w e) es
