-- A turn of an actor: what is due is posted as far as boxes are empty, then at most one packet is fetched, and is the turn's event
-- (docs/ARCHITECTURE.md, "Threads").
use Rattle.std.specs.Prelude.{◌≡◌, ◌⊎◌, ℕ, zero, suc, ◌==◌, Bool, true, false, not}
use Rattle.std.specs.Prelude.{Option, Some, None, Result, List, [], ◌∷◌, ◌++◌, filter}
use Rattle.std.specs.Prelude.{if◌then◌else◌}
use Rattle.std.specs.declared.vec.Vec.{Vec}
use Rattle.std.specs.declared.alloc.Global.{Global}
use Rattle.cluster_world.specs.Has.{Has}
use Rattle.paxos_packets.specs.Members.{IsMember, is_in}
use Rattle.paxos_packets.specs.declared.packet.Packet.{Packet}
use Rattle.paxos_packets.specs.declared.rows.Rows.{Rows}
use Rattle.actor_outboxes.specs.Outboxes.{IsPeer, waiting}
use Rattle.paxos_node.specs.declared.event.Event.{Event}
use Rattle.paxos_node.specs.Events.{packet_in}
use Rattle.replica_machine.specs.Replay.{Steps}
use Rattle.actor_parts.specs.declared.fault.ActorFault.{ActorFault}
use Rattle.actor_parts.specs.Steps.{OnlyWaiting}
use Rattle.mail_table.specs.Seats.{Seated, knows}
use Rattle.mail_table.specs.Views.{box_of, lost, receiving}
use Rattle.mail_table.specs.declared.part.Part.{Part}
use Rattle.mail_table.specs.declared.part.Try.{Try}
use Rattle.node_actor.specs.Actor.{Acting, parts}
use Rattle.node_actor.specs.declared.heard.Heard.{Heard}
use Rattle.node_actor.specs.Heard.{heard_in}
use Rattle.node_actor.specs.Calls.{turn_event, Acts}
use Rattle.node_actor.specs.Views.{View, posted_to, received_from, StandsFor, received_by}

-- whether the tries at a box won, oldest first
abbrev pub tries_at : ℕ → List Try → List Bool
tries_at at [] = []
tries_at at (t ∷ ts) = if t.at == at then t.won ∷ tries_at at ts else tries_at at ts

abbrev pub tries_to : {B : Type 0} → ℕ → View B → List Bool
tries_to k v = tries_at (box_of v.members v.part.me k) v.part.tried

-- what one try makes of the packets for a peer, and whether one was posted: none is due, and there is no try; or the oldest one is posted,
-- and waits no longer; or the try is lost, and all wait as before
pub data PostsTo {B M K : Type 0} (k : ℕ) (won : Bool) (old new : Acting B M K) (v w : View B) : Type 0 where
  none_due : won ≡ false → waiting k old.waiting ≡ [] → waiting k new.waiting ≡ [] → posted_to k w ≡ posted_to k v
      → tries_to k w ≡ tries_to k v
      → PostsTo k won old new v w
  post_won : (p : Packet B) (rest : List (Packet B)) → won ≡ true → waiting k old.waiting ≡ p ∷ rest → waiting k new.waiting ≡ rest
      → posted_to k w ≡ posted_to k v ++ p ∷ [] → tries_to k w ≡ tries_to k v ++ true ∷ []
      → PostsTo k won old new v w
  post_lost : (p : Packet B) (rest : List (Packet B)) → won ≡ false → waiting k old.waiting ≡ p ∷ rest → waiting k new.waiting ≡ p ∷ rest
      → posted_to k w ≡ posted_to k v → tries_to k w ≡ tries_to k v ++ false ∷ []
      → PostsTo k won old new v w

-- nothing but what waits, what was posted and what was tried is new
pub record Beside {B M K : Type 0} (old new : Acting B M K) (v w : View B) : Type 0 where
  pub only : OnlyWaiting (parts old) (parts new)
  pub table : w ≡ knows w.part v
  pub me : w.part.me ≡ v.part.me
  pub seen : w.part.seen ≡ v.part.seen
  pub events : w.part.events ≡ v.part.events
  pub received : w.part.received ≡ v.part.received

-- nothing of what waits for a peer, was posted to it and tried at its box is new
pub record StaysTo {B M K : Type 0} (k : ℕ) (old new : Acting B M K) (v w : View B) : Type 0 where
  pub waits : waiting k new.waiting ≡ waiting k old.waiting
  pub posted : posted_to k w ≡ posted_to k v
  pub tries : tries_to k w ≡ tries_to k v

-- there was one try to post to this node, if packets were due for it; and whether one was posted, as to a peer alone
pub record PostsOne {B M K : Type 0} (to : ℕ) (won : Bool) (old new : Acting B M K) (v w : View B) : Type 0 where
  pub beside : Beside old new v w
  pub there : IsPeer old.node.me old.node.members to → PostsTo to won old new v w
  pub peer : won ≡ true → IsPeer old.node.me old.node.members to
  pub others : (k : ℕ) → IsPeer old.node.me old.node.members k → (k ≡ to → ⊥) → StaysTo k old new v w

-- for each peer for which packets were due, there was one try to post; and the set of the peers to which one was posted
pub record PostsAlone {B M K : Type 0} (set : List Bool) (old new : Acting B M K) (v w : View B) : Type 0 where
  pub beside : Beside old new v w
  pub each : (k : ℕ) → IsPeer old.node.me old.node.members k → PostsTo k (is_in set k) old new v w
  pub others : (k : ℕ) → (IsPeer old.node.me old.node.members k → ⊥) → is_in set k ≡ false

-- the numbers of this many members from this one on, the first one after the last one; and all but one node, once round

abbrev pub after : ℕ → ℕ → ℕ
after members k = if k == members then 1 else suc k

abbrev pub numbers_from : ℕ → ℕ → ℕ → List ℕ
numbers_from members k zero = []
numbers_from members k (suc m) = k ∷ numbers_from members (after members k) m

abbrev pub others_from : ℕ → ℕ → ℕ → ℕ → List ℕ
others_from me members k m = filter (λ j. not (j == me)) (numbers_from members k m)

abbrev pub round : ℕ → ℕ → ℕ → List ℕ
round me members first = others_from me members first members

-- whichever member is first, each other member is in the round
abbrev pub EachIsTried : Type 0
EachIsTried = (me members first k : ℕ) → IsMember members first → IsPeer me members k → Has (round me members first) k

-- tries to fetch from these nodes, one after another, until one won: what it gave, and from which node; none was left if none won
abbrev pub Fetches : {B : Type 0} → ℕ → List ℕ → Part B → Option (ℕ × Packet B) → Part B → Type 0
Fetches n [] x None y = y ≡ x
Fetches n [] x (Some got) y = ⊥
Fetches n (k ∷ ks) x None y = Fetches n ks (lost (box_of n k x.me) x) None y
Fetches n (k ∷ ks) x (Some got) y =
    ((got.0 ≡ k) × (y ≡ receiving (box_of n k x.me) got.1 x)) ⊎ Fetches n ks (lost (box_of n k x.me) x) (Some got) y

-- the part once one try to fetch from this node was lost, if it is another
abbrev pub passed_by : {B : Type 0} → ℕ → ℕ → Part B → Part B
passed_by n k x = if k == x.me then x else lost (box_of n k x.me) x

-- the packet that was fetched, the peer from which it came, and what it shows

abbrev pub packet_got : {B : Type 0} → Option (ℕ × Packet B) → Option (Packet B)
packet_got None = None
packet_got (Some got) = Some got.1

abbrev pub peer_got : {B : Type 0} → Option (ℕ × Packet B) → Option ℕ
peer_got None = None
peer_got (Some got) = Some got.0

abbrev pub heard_got : {B : Type 0} → Option (ℕ × Packet B) → Option Heard
heard_got None = None
heard_got (Some got) = Some (heard_in got.1.kind)

module _ {B S Y M K : Type 0} (same : B → B → Bool) (steps : Steps B S Y) (content : M → S) (loaded : List ℕ → Option S)
    (holds : K → Rows B → Type 0) (finds : K → Rows B → Type 0) (failures : K → ℕ) where
  -- what was due was posted, as far as tries won; then it was fetched, from one peer after another, until a try won; what came, if anything
  -- did, is the event that the call makes of the actor that had posted; and the actor shows to which peers it posted, from which one a packet
  -- came, and what that shows, whatever the event makes of it
  pub record Turns (old new : Acting B M K) (v : View B) (result : Result (Vec Y Global) (ActorFault Y)) : Type 0 where
    pub mid : Acting B M K
    pub between : View B
    pub stands : StandsFor mid between
    pub posts : PostsAlone new.last.posted old mid v between
    pub first : ℕ
    pub within : IsMember old.node.members first
    pub got : Option (ℕ × Packet B)
    pub behind : Part B
    pub fetches : Fetches old.node.members (round old.node.me old.node.members first) between.part got behind
    pub acts : Acts same steps content loaded holds finds failures (turn_event old.node.me old.node.members (packet_got got)) mid new between result
    pub tried : new.seat.part.tried ≡ behind.tried
    pub received : new.seat.part.received ≡ behind.received
    pub posted : new.seat.part.posted ≡ behind.posted
    pub peer : new.last.from ≡ peer_got got
    pub heard : new.last.heard ≡ heard_got got

-- what an event leaves alone at the seat
pub record StaysAt {B : Type 0} (old new : Seated B) : Type 0 where
  pub table : new ≡ knows new.part old
  pub me : new.part.me ≡ old.part.me
  pub tried : new.part.tried ≡ old.part.tried
  pub received : new.part.received ≡ old.part.received
  pub posted : new.part.posted ≡ old.part.posted

-- a view, and what its seat knows once these packets have come before an event: it has received them, and tried; nothing else is new, and
-- nothing at all if the actor has ended, or the event has no packet
pub record ReachesWith {B : Type 0} (got : List (Packet B)) (spoiled : Bool) (e : Option (Event B)) (v s : View B) : Type 0 where
  pub table : s ≡ knows s.part v
  pub me : s.part.me ≡ v.part.me
  pub seen : s.part.seen ≡ v.part.seen
  pub events : s.part.events ≡ v.part.events
  pub posted : s.part.posted ≡ v.part.posted
  pub received : (k : ℕ) → received_from k s ≡ received_from k v ++ filter (λ p. p.sender == k) got
  pub ended : spoiled ≡ true → s ≡ v
  pub alone : (x : Event B) → e ≡ Some x → packet_in x ≡ None → s ≡ v

-- the same once the event's own packet has come
abbrev pub Reaches : {B : Type 0} → Bool → Option (Event B) → View B → View B → Type 0
Reaches spoiled e v s = ReachesWith (received_by e) spoiled e v s
