-- What a restart is among the events of the core, and why one is refused (docs/CONSENSUS.md, "A node with its store").
use Rattle.std.specs.Prelude.{◌≡◌, ◌⊎◌, ◌<◌, ◌≤◌, ◌^◌, ℕ, zero, suc, ◌-◌, nat_lt, Bool, true, false, Result, Ok, Err, Some, None, List, []}
use Rattle.std.specs.Prelude.{◌∷◌, ◌++◌, ◌+◌, Option, is_some, option_map, if◌then◌else◌}
use Rattle.paxos_packets.specs.Rows.{raised}
use Rattle.paxos_packets.specs.declared.rows.Rows.{Rows}
use Rattle.paxos_acceptor.specs.Acceptor as accepting
use Rattle.store_keeper.specs.Keeper.{FindsNoMore, FindsOr}
use Rattle.store_keeper.specs.declared.fault.KeeperFault.{KeeperFault}
use Rattle.store_keeper.specs.declared.fault.KeeperFault.TheVariants as store
use Rattle.paxos_node.specs.Adopting.{Planned}
use Rattle.paxos_node.specs.Events.{possible, outcome_of}
use Rattle.paxos_node.specs.Plans.{plans}
use Rattle.paxos_node.specs.View.{Viewed, moved}
use Rattle.paxos_node.specs.declared.event.Event.{Event}
use Rattle.paxos_node.specs.declared.event.Event.TheVariants.{Crash, Restart}
use Rattle.paxos_node.specs.declared.outcome.Outcome.{Outcome}
use Rattle.paxos_packets.specs.declared.rows.Change.{Change}
use Rattle.actor_parts.specs.Tried.{AreTried, change_of, count_of, events_in}
use Rattle.actor_parts.specs.declared.tried.FailedCommit.{FailedCommit}
use Rattle.actor_parts.specs.declared.tried.FailedCommit.TheVariants.{One, Round}
use Rattle.actor_parts.specs.declared.tried.Tried.{Tried}
use Rattle.paxos_planning.specs.Node.{NodeState}
use Rattle.mail_table.specs.Seats.{Seated}
use Rattle.actor_parts.specs.declared.fault.ActorFault.{ActorFault}
use Rattle.actor_parts.specs.declared.fault.ActorFault.TheVariants.{Failed, Rounds, Full, Keeper, Disagree, LostHere, Worn, Memory}
use Rattle.actor_parts.specs.Snapshots.{is_no_log}
use Rattle.paxos_packets.specs.Snapshot as taken
use Rattle.node_actor.specs.Compare.{fit_of, is_ahead}
use Rattle.node_actor.specs.declared.compare.Fit.{Fit}
use Rattle.node_actor.specs.declared.compare.Fit.TheVariants.{Left, Meant, Others}
use Rattle.node_actor.specs.Posts.{Posted}
use Rattle.node_actor.specs.Beginning.{Starts, NoDamage, Boots, MayBegin, IsEmpty}
use Rattle.node_actor.specs.declared.preparing.Ready.{Ready}

-- the rows this many boots on
abbrev pub raises : {B : Type 0} → ℕ → Rows B → Rows B
raises zero r = r
raises (suc d) r = raised (raises d r)

-- this many boots that came to nothing, and then one
abbrev pub restarts : {B : Type 0} → ℕ → ℕ → List (Event B)
restarts me zero = Restart me ∷ []
restarts me (suc d) = Restart me ∷ (Crash me ∷ restarts me d)

-- the same of a node that may be up yet
abbrev pub comes_back : {B : Type 0} → ℕ → Bool → ℕ → List (Event B)
comes_back me up d = if up then Crash me ∷ restarts me d else restarts me d

-- a view goes on by events, each of which is possible
abbrev pub moved_by_all : {B : Type 0} → (B → B → Bool) → ℕ → List (Event B) → Viewed B → Viewed B
moved_by_all same members [] s = s
moved_by_all same members (e ∷ es) s =
    moved_by_all same members es (moved (outcome_of same members e s.node).node (outcome_of same members e s.node).packets s)

abbrev pub ArePossible : {B : Type 0} → (B → B → Bool) → ℕ → List (Event B) → NodeState B → Type 0
ArePossible same members [] x = Unit {0}
ArePossible same members (e ∷ es) x = (possible e x ≡ true) × ArePossible same members es (outcome_of same members e x).node

-- the node after events, one after another
abbrev pub node_after : {B : Type 0} → (B → B → Bool) → ℕ → List (Event B) → NodeState B → NodeState B
node_after same members [] x = x
node_after same members (e ∷ es) x = node_after same members es (outcome_of same members e x).node

-- the events that what a failed commit was to leave is of
pub data AreOf {B : Type 0} (same : B → B → Bool) (me members : ℕ) (x : NodeState B) : FailedCommit B → List (Event B) → Type 0 where
  of_one : (o : Outcome B) (e : Event B) → plans me e x ≡ true → Planned same members e x o → AreOf same me members x (One o) (e ∷ [])
  of_round : (c : Change B) (ts : List (Tried B)) → AreTried same me members ts x → AreOf same me members x (Round c ts) (events_in ts)

-- the store's rows are those of the post, or those that its failed commit was to leave, apart from `d` boots more; then the view goes on by the
-- events whose commit had failed, if they are the second, by a Crash if its node is up, by a Restart and a Crash for each boot more, and by a Restart
pub data ComesBack {B : Type 0} (same : B → B → Bool) (p : Posted B) (x : NodeState B) (r : Rows B) : List (Event B) → Type 0 where
  as_left : (d : ℕ) → r ≡ raises d x.rows → ComesBack same p x r (comes_back p.me x.up d)
  as_meant : (d : ℕ) (m : FailedCommit B) (es : List (Event B)) → p.failed ≡ Some m → AreOf same p.me p.members x m es
      → r ≡ raises d (accepting.adopted x.rows (change_of m))
      → ComesBack same p x r (es ++ comes_back p.me (node_after same p.members es x).up d)

-- the change whose commit failed, and of how many events it is: none without one

abbrev pub change_in : {B : Type 0} → Option (FailedCommit B) → Option (Change B)
change_in failed = option_map change_of failed

abbrev pub count_in : {B : Type 0} → Option (FailedCommit B) → ℕ
count_in None = 0
count_in (Some m) = count_of m

-- so the seat goes on from one view to the next, and exchanges no packet meanwhile
pub record Returns {B : Type 0} (same : B → B → Bool) (p : Posted B) (r : Rows B) (v w : Seated B) : Type 0 where
  pub events : List (Event B)
  pub comes : ComesBack same p v.part.seen.node r events
  pub possible : ArePossible same p.members events v.part.seen.node
  pub moved : w.part.seen ≡ moved_by_all same p.members events v.part.seen
  pub me : w.part.me ≡ v.part.me
  pub members : w.members ≡ v.members
  pub posted : w.part.posted ≡ v.part.posted
  pub received : w.part.received ≡ v.part.received

-- the store has rows with a snapshot of which no log is made, or the node was opened, and may not find these rows again
abbrev pub HasOthers : {B S : Type 0} → (B → B → Bool) → (List ℕ → Option S) → Posted B → Rows B → Type 0
HasOthers {B} same loaded p r =
    (is_no_log loaded r.snapshot ≡ true) ⊎ ((k : Rows B) × (p.rows ≡ Some k) × (fit_of same (change_in p.failed) k r ≡ Others))

-- why no log was made of the snapshot in rows: its octets are none of a log, or memory ran out
abbrev pub IsUnmade : {S Y : Type 0} → (List ℕ → Option S) → Option taken.Snapshot → ActorFault Y → Type 0
IsUnmade loaded snapshot (Keeper fault) = (fault ≡ store.Damaged) × (is_no_log loaded snapshot ≡ true)
IsUnmade loaded snapshot Memory = Unit {0}
IsUnmade loaded snapshot Failed = ⊥
IsUnmade loaded snapshot Rounds = ⊥
IsUnmade loaded snapshot Full = ⊥
IsUnmade loaded snapshot Disagree = ⊥
IsUnmade loaded snapshot (LostHere says) = ⊥
IsUnmade loaded snapshot Worn = ⊥

-- whether the steps of the failed events come first, of which there are so many; else the store has other rows, or the node's word does not count the
-- events that are to come
abbrev pub judge_of : {Y : Type 0} → Fit → ℕ → ℕ → Result Bool (ActorFault Y)
judge_of Others n count = Err (Keeper store.Damaged)
judge_of Left n count = if nat_lt n (2 ^ 62) then Ok false else Err Worn
judge_of Meant n count = if nat_lt (n + count) (2 ^ 62) then Ok true else Err Worn

-- why a post did not go on
module _ {B K : Type 0} (same : B → B → Bool) (holds finds : K → Rows B → Type 0) (is_faithful : K → Type 0) (failures : K → ℕ) where
  -- no boot was begun: the store holds what it held, and finds nothing more
  pub record Stays (old new : K) : Type 0 where
    pub same_rows : (r : Rows B) → holds old r → holds new r
    pub found : FindsNoMore finds old new
    pub counted : failures old ≤ failures new

  -- nor by a load that gave these rows: the store's, if what lies below returned what was written
  pub record Loads (old mid : K) (rows : Rows B) : Type 0 where
    pub stays : Stays old mid
    pub held : holds mid rows
    pub right : is_faithful mid → (r : Rows B) → holds old r → rows ≡ r

  -- it has the rows that were left, or those that the failed commit was to leave, and its word counts the events that are to come
  pub data Found (p : Posted B) (old new : K) (r : Rows B) (meant : Bool) : Type 0 where
    found_left : (k : Rows B) → p.rows ≡ Some k → Loads old new r → fit_of same (change_in p.failed) k r ≡ Left → meant ≡ false
        → p.seat.part.events < 2 ^ 62
        → Found p old new r meant
    found_meant : (k : Rows B) → p.rows ≡ Some k → Loads old new r → fit_of same (change_in p.failed) k r ≡ Meant → meant ≡ true
        → p.seat.part.events + count_in p.failed < 2 ^ 62
        → Found p old new r meant

  -- a load gave these rows: the node was never opened, or it may find them again; and its word counts the events that are to come
  pub data Fits (p : Posted B) (old mid : K) (r : Rows B) (meant : Bool) : Type 0 where
    anew : p.rows ≡ None → meant ≡ false → Loads old mid r → p.seat.part.events < 2 ^ 62 → Fits p old mid r meant
    again : Found p old mid r meant → Fits p old mid r meant

  -- the word of the node counts no event more, or not those of the failed commit and the renewal
  pub data IsWorn (p : Posted B) (old new : K) : Type 0 where
    worn_first : p.rows ≡ None → new ≡ old → 2 ^ 62 ≤ p.seat.part.events → IsWorn p old new
    worn_left : (k r : Rows B) → p.rows ≡ Some k → Loads old new r → fit_of same (change_in p.failed) k r ≡ Left → 2 ^ 62 ≤ p.seat.part.events
        → IsWorn p old new
    worn_meant : (k r : Rows B) → p.rows ≡ Some k → Loads old new r → fit_of same (change_in p.failed) k r ≡ Meant
        → 2 ^ 62 ≤ p.seat.part.events + count_in p.failed
        → IsWorn p old new

module _ {B S K : Type 0} (same : B → B → Bool) (loaded : List ℕ → Option S) (holds finds : K → Rows B → Type 0) (is_faithful : K → Type 0)
    (failures : K → ℕ) where
  -- the node was opened, and the load failed; or its rows are others; or they are not those that were left, and memory ran out as they were
  -- compared with those that the failed commit was to leave; or the word is worn; or it counts what is to come, and the load of a node that was
  -- never opened failed; or no log was made of the snapshot in the rows; or one was, and the boot did not begin; or the boot gave other rows than
  -- the load, as it never does if what lies below returned what was written
  pub data Refuses {Y : Type 0} (p : Posted B) (old new : K) : ActorFault Y → Type 0 where
    unread : (k : Rows B) (f : KeeperFault) → p.rows ≡ Some k → Stays same holds finds is_faithful failures old new
        → (f ≡ store.Store → failures old < failures new)
        → (is_faithful new → (r : Rows B) → holds old r → f ≡ store.Damaged → ⊥)
        → Refuses p old new (Keeper f)
    others : (k r : Rows B) → p.rows ≡ Some k → Loads same holds finds is_faithful failures old new r → fit_of same (change_in p.failed) k r ≡ Others
        → Refuses p old new (Keeper store.Damaged)
    unjudged : (k r : Rows B) → p.rows ≡ Some k → Loads same holds finds is_faithful failures old new r
        → is_ahead same k r ≡ false → is_some p.failed ≡ true
        → Refuses p old new Memory
    worn : IsWorn same holds finds is_faithful failures p old new → Refuses p old new Worn
    unread_first : (f : KeeperFault) → p.rows ≡ None → p.seat.part.events < 2 ^ 62 → Stays same holds finds is_faithful failures old new
        → (f ≡ store.Store → failures old < failures new)
        → (is_faithful new → (r : Rows B) → holds old r → f ≡ store.Damaged → ⊥)
        → Refuses p old new (Keeper f)
    unmade : (f : ActorFault Y) (r : Rows B) (meant : Bool) → Fits same holds finds is_faithful failures p old new r meant
        → IsUnmade loaded r.snapshot f → Refuses p old new f
    unbooted : (f : ActorFault Y) (mid : K) (r : Rows B) (meant : Bool) → (f ≡ Worn → ⊥)
        → Fits same holds finds is_faithful failures p old mid r meant
        → is_no_log loaded r.snapshot ≡ false → Starts holds finds failures mid new f → NoDamage holds is_faithful mid new f
        → Refuses p old new f
    strayed : (mid : K) (r : Rows B) (meant : Bool) → Fits same holds finds is_faithful failures p old mid r meant
        → is_no_log loaded r.snapshot ≡ false → (is_faithful new → ⊥)
        → Starts {Y = Y} holds finds failures mid new (Keeper store.Damaged)
        → Refuses p old new (Keeper store.Damaged)

-- a boot is ready to be taken over: the rows and the empty outboxes that it begins with, and how it came to them
module _ {B S K : Type 0} (same : B → B → Bool) (loaded : List ℕ → Option S) (holds finds : K → Rows B → Type 0) (is_faithful : K → Type 0)
    (is_failed : K → Bool) (failures : K → ℕ) where
  pub record Readied (p : Posted B) (old new : K) (r : Ready B) : Type 0 where
    pub mid : K
    pub rows : Rows B
    pub fits : Fits same holds finds is_faithful failures p old mid rows r.meant
    pub readable : is_no_log loaded rows.snapshot ≡ false
    pub snapshot : r.rows.snapshot ≡ rows.snapshot
    pub found : (x : Rows B) → holds mid x → FindsOr finds mid new (raised x)
    pub faithful : is_faithful new → is_faithful mid
    pub boots : Boots holds is_faithful old new r.rows
    pub may : MayBegin p r.rows r.meant
    pub whole : is_failed new ≡ false
    pub empty : IsEmpty p.me p.members r.outboxes
