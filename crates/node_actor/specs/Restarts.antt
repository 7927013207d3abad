-- An actor begins, and goes on from what is left of one (docs/CONSENSUS.md, "A node with its store").
use Rattle.std.specs.Prelude.{◌≡◌, ℕ, Bool, false, Option, List, []}
use Rattle.paxos_packets.specs.declared.entry.Entry.{Entry}
use Rattle.paxos_packets.specs.declared.rows.Rows.{Rows}
use Rattle.actor_outboxes.specs.Outboxes.{waiting}
use Rattle.replica_machine.specs.Log.{IsLogOf, machine_from}
use Rattle.replica_machine.specs.Replay.{Steps}
use Rattle.paxos_node.specs.Applying.{started}
use Rattle.paxos_node.specs.declared.event.Event.{Event}
use Rattle.paxos_node.specs.declared.view.Opened.TheVariants.{With}
use Rattle.actor_parts.specs.declared.fault.ActorFault.{ActorFault}
use Rattle.node_actor.specs.Posts.{Posted}
use Rattle.node_actor.specs.Snapshots.{IsFirstLog, BeginsAfter}
use Rattle.node_actor.specs.Beginning.{Leaves, Renews, Starts}
use Rattle.node_actor.specs.Preparing.{ArePossible, ComesBack, moved_by_all}
use Rattle.node_actor.specs.Actor.{Acting, no_turn}
use Rattle.node_actor.specs.Views.{View, seen, posted_to, received_from, StandsFor}

-- an actor begins with the rows of its store, raised by one boot: it stands for a view that was opened with them, or begins anew with them,
-- nothing waits, no turn or round was taken, and its log is that of the snapshot in the rows, or the empty one
module _ {B S Y M K : Type 0} (same : B → B → Bool) (steps : Steps B S Y) (content : M → S) (loaded : List ℕ → Option S)
    (holds : K → Rows B → Type 0) (is_faithful : K → Type 0) where
  pub record Opens (p : Posted B) (machine : M) (keeper : K) (a : Acting B M K) : Type 0 where
    pub renews : Renews same holds is_faithful p keeper a.keeper a.seat
    pub stands : StandsFor a a.seat
    pub node : a.node.state ≡ started p.me renews.rows
    pub who : (a.node.me ≡ p.me) × (a.node.members ≡ p.members)
    pub waits : (k : ℕ) → waiting k a.waiting ≡ []
    pub last : a.last ≡ no_turn
    pub fresh : a.spoiled ≡ false
    pub log : IsFirstLog content loaded machine renews.rows.snapshot a.log
    pub follows : (first : S) (under : List (Entry B)) → BeginsAfter content loaded (machine_from steps first) machine under renews.rows.snapshot
        → IsLogOf steps content first under a.log

-- its view was opened with these rows
pub record OpensFirst {B M K : Type 0} (holds : K → Rows B → Type 0) (me : ℕ) (v : View B) (a : Acting B M K) : Type 0 where
  pub rows : Rows B
  pub held : holds a.keeper rows
  pub opened : seen a.seat ≡ record { opened = With rows; node = started me rows; sent = (seen v).sent }

-- a view that a post was left of goes on by the events of the core, up to one that the actor stands for
pub record Resumes {B M K : Type 0} (same : B → B → Bool) (p : Posted B) (v : View B) (r : Rows B) (a : Acting B M K) : Type 0 where
  pub events : List (Event B)
  pub comes : ComesBack same p (seen v).node r events
  pub possible : ArePossible same p.members events (seen v).node
  pub next : View B
  pub stands : StandsFor a next
  pub moved : seen next ≡ moved_by_all same p.members events (seen v)
  pub posted : (k : ℕ) → posted_to k next ≡ posted_to k v
  pub received : (k : ℕ) → received_from k next ≡ received_from k v

-- none begins: what is found is what was held before, or that with one boot more, and this post is left
pub record Shuts {B Y K : Type 0} (same : B → B → Bool) (holds finds : K → Rows B → Type 0) (is_faithful : K → Type 0) (failures : K → ℕ)
    (p : Posted B) (old : K) (fault : ActorFault Y) (left : Posted B) (new : K) : Type 0 where
  pub starts : Starts holds finds failures old new fault
  pub leaves : Leaves same holds is_faithful p old new left fault
