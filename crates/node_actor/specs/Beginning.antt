-- How an actor begins, and begins again from what is left of one (docs/CONSENSUS.md, "A node with its store").
use Rattle.std.specs.Prelude.{◌≡◌, ◌<◌, ◌≤◌, ◌+◌, ◌^◌, ℕ, suc, Bool, true, false, Option, Some, None, []}
use Rattle.paxos_packets.specs.Rows.{last_boot, raised}
use Rattle.paxos_packets.specs.declared.rows.Rows.{Rows}
use Rattle.paxos_acceptor.specs.Acceptor as accepting
use Rattle.store_keeper.specs.Keeper.{FindsOr}
use Rattle.store_keeper.specs.declared.fault.KeeperFault.TheVariants as store
use Rattle.actor_outboxes.specs.Outboxes.{Waiting, waiting}
use Rattle.paxos_node.specs.Applying.{started}
use Rattle.paxos_node.specs.Held.{Held}
use Rattle.actor_parts.specs.Tried.{change_of, count_of}
use Rattle.actor_parts.specs.declared.tried.FailedCommit.{FailedCommit}
use Rattle.mail_table.specs.Covered.{with_boot}
use Rattle.mail_table.specs.Seats.{Seated}
use Rattle.actor_parts.specs.declared.fault.ActorFault.{ActorFault}
use Rattle.actor_parts.specs.declared.fault.ActorFault.TheVariants.{Failed, Rounds, Full, Keeper, Disagree, LostHere, Worn, Memory}
use Rattle.node_actor.specs.Posts.{Posted, stepped, renewed}

-- these rows in a later boot
pub record IsLater {B : Type 0} (k r : Rows B) : Type 0 where
  pub rows : r ≡ with_boot r.boot k
  pub later : k.boot < r.boot

-- a node may begin with these rows: it was never opened, or they are those of the post in a later boot, or those that the
-- failed commit was to leave, whose steps are made first; and its word counts these events
pub data MayBegin {B : Type 0} (p : Posted B) (r : Rows B) (meant : Bool) : Type 0 where
  first_time : p.rows ≡ None → meant ≡ false → p.seat.part.events < 2 ^ 62 → MayBegin p r meant
  from_left : (k : Rows B) → p.rows ≡ Some k → meant ≡ false → IsLater k r → p.seat.part.events < 2 ^ 62 → MayBegin p r meant
  from_meant : (k : Rows B) (m : FailedCommit B) → p.rows ≡ Some k → p.failed ≡ Some m → meant ≡ true → IsLater (accepting.adopted k (change_of m)) r
      → p.seat.part.events + count_of m < 2 ^ 62
      → MayBegin p r meant

-- the seat whose node begins with them
abbrev pub seat_before : {B : Type 0} → (B → B → Bool) → Bool → Option (FailedCommit B) → Seated B → Seated B
seat_before same true (Some m) s = stepped same m s
seat_before same true None s = s
seat_before same false failed s = s

-- the node that begins with these rows
pub record IsNodeOf {B : Type 0} (number count : ℕ) (rows : Rows B) (h : Held B) : Type 0 where
  pub me : h.me ≡ number
  pub members : h.members ≡ count
  pub state : h.state ≡ started number rows

-- outboxes in which nothing waits
pub record IsEmpty {B : Type 0} (number count : ℕ) (w : Waiting B) : Type 0 where
  pub me : w.me ≡ number
  pub members : w.members ≡ count
  pub waits : (k : ℕ) → waiting k w ≡ []

module _ {B K : Type 0} (holds : K → Rows B → Type 0) (is_faithful : K → Type 0) where
  -- a boot has begun: the rows of the store with one boot more
  pub record Boots (old new : K) (rows : Rows B) : Type 0 where
    pub held : holds new rows
    pub booted : is_faithful new → (r : Rows B) → holds old r → rows ≡ raised r
    pub within : rows.boot ≤ last_boot

module _ {B K : Type 0} (same : B → B → Bool) (holds : K → Rows B → Type 0) (is_faithful : K → Type 0) where
  -- and the seat's node has begun with them
  pub record Renews (p : Posted B) (old new : K) (s : Seated B) : Type 0 where
    pub rows : Rows B
    pub boots : Boots holds is_faithful old new rows
    pub meant : Bool
    pub may : MayBegin p rows meant
    pub seat : s ≡ renewed rows (seat_before same meant p.failed p.seat)

  -- the same, with the node itself, and empty outboxes
  pub record Begins (is_failed : K → Bool) (p : Posted B) (old new : K) (h : Held B) (w : Waiting B) (s : Seated B) : Type 0 where
    pub renews : Renews p old new s
    pub node : IsNodeOf p.me p.members renews.rows h
    pub whole : is_failed new ≡ false
    pub empty : IsEmpty p.me p.members w

  -- the post that is left if none begins: the one that there was; or, if memory ran out at the node's first step, one with the rows of the
  -- boot that had begun
  pub data Leaves {Y : Type 0} (p : Posted B) (old new : K) (left : Posted B) : ActorFault Y → Type 0 where
    as_it_was : (f : ActorFault Y) → left ≡ p → Leaves p old new left f
    begun : (n : Renews p old new left.seat) → left ≡ record {
      me = p.me;
      members = p.members;
      rows = Some n.rows;
      failed = None;
      seat =
          left.seat;
    }
        → Leaves p old new left Memory

module _ {B K : Type 0} (holds : K → Rows B → Type 0) (is_faithful : K → Type 0) where
  -- damage is not reported if what lies below returned what was written, as it did before, too
  pub record NoDamage {Y : Type 0} (old new : K) (fault : ActorFault Y) : Type 0 where
    pub faithful : is_faithful new → is_faithful old
    pub sound : is_faithful new → (r : Rows B) → holds old r → fault ≡ Keeper store.Damaged → ⊥

-- what kept a boot from its beginning: memory that ran out, a worn word, or the store, which says that it failed only if it did
abbrev pub MayKeepFrom : {Y : Type 0} → ℕ → ℕ → ActorFault Y → Type 0
MayKeepFrom m n (Keeper fault) = fault ≡ store.Store → m < n
MayKeepFrom m n Memory = Unit {0}
MayKeepFrom m n Worn = Unit {0}
MayKeepFrom m n Failed = ⊥
MayKeepFrom m n Rounds = ⊥
MayKeepFrom m n Full = ⊥
MayKeepFrom m n Disagree = ⊥
MayKeepFrom m n (LostHere says) = ⊥

-- what is found then is what was held before, or that with one boot more
pub record Starts {B Y K : Type 0} (holds finds : K → Rows B → Type 0) (failures : K
    → ℕ) (old new : K) (fault : ActorFault Y) : Type 0 where
  pub may : MayKeepFrom (failures old) (failures new) fault
  pub found : (r : Rows B) → holds old r → FindsOr finds old new (raised r)
