-- The packets of a node that wait to be sent (docs/CONSENSUS.md, "A node with its store").
use Rattle.std.specs.Prelude.{◌≡◌, ◌<◌, ◌≤◌, ℕ, suc, zero, ◌+◌, ◌||◌, ◌&&◌, ◌==◌, nat_lt, Bool, true, false, not, Option, Some, None, option_map, List, [], ◌∷◌, ◌++◌}
use Rattle.std.specs.Prelude.{All, length, filter, map, drop, slice_get, slice_index_or, slice_set, if◌then◌else◌}
use Rattle.circular_buffer.specs.Buffer.{Buffer, buffer, keep_last}
use Rattle.std.specs.List.{list_any}
use Rattle.paxos_packets.specs.declared.packet.Kind.{Kind}
use Rattle.paxos_packets.specs.declared.packet.Kind.TheVariants.{Forward}
use Rattle.paxos_packets.specs.declared.packet.Packet.{Packet}
use Rattle.paxos_packets.specs.Members.{IsMember}
use Rattle.actor_outboxes.specs.declared.outboxes.Stamped.{Stamped}
use Rattle.actor_outboxes.specs.declared.outboxes.First.{First}

-- how many packets wait for a member at most
abbrev pub most_waiting : ℕ
most_waiting = 4096

-- an outbox for each number from 0 up to that of the last member, and the stamp that the next packet gets
pub record Waiting (B : Type 0) : Type 0 where
  pub me : ℕ
  pub members : ℕ
  pub boxes : List (Buffer (Stamped B))
  pub next : ℕ

-- how many packets may wait in the outbox of this number: none if it is that of no other member
abbrev pub limit : ℕ → ℕ → ℕ
limit me k = if k == 0 || k == me then 0 else most_waiting

abbrev pub box_of : {B : Type 0} → ℕ → List (Buffer (Stamped B)) → Buffer (Stamped B)
box_of k boxes = slice_index_or boxes k (buffer [] 0)

-- what waits for a node, in the order in which it was sent
abbrev pub waiting : {B : Type 0} → ℕ → Waiting B → List (Packet B)
waiting k w = map (λ s. s.packet) (box_of k w.boxes).items

-- another member
abbrev pub IsPeer : ℕ → ℕ → ℕ → Type 0
IsPeer me members k = IsMember members k × (k ≡ me → ⊥)

-- the packets for a node
abbrev pub to : {B : Type 0} → ℕ → List (Packet B) → List (Packet B)
to k ps = filter (λ p. p.addressee == k) ps

-- empty outboxes for the numbers below n
abbrev pub empty_boxes : {B : Type 0} → ℕ → ℕ → List (Buffer (Stamped B))
empty_boxes me zero = []
empty_boxes me (suc n) = empty_boxes me n ++ buffer [] (limit me n) ∷ []

-- one packet more waits after the others of its outbox, whose first one gives way if it is full
abbrev pub behind : {B : Type 0} → Stamped B → Buffer (Stamped B) → Buffer (Stamped B)
behind s b = buffer (keep_last b.capacity (b.items ++ s ∷ [])) b.capacity

-- the same among all outboxes
abbrev pub filed : {B : Type 0} → Stamped B → List (Buffer (Stamped B)) → List (Buffer (Stamped B))
filed s boxes = slice_set boxes s.packet.addressee (behind s (box_of s.packet.addressee boxes))

-- no more wait for a member than may
abbrev pub HasLimits : {B : Type 0} → Waiting B → Type 0
HasLimits w = (k : ℕ) → IsPeer w.me w.members k → length (waiting k w) ≤ most_waiting

-- the packets wait after those that do; of all these the last ones stay
abbrev pub WaitBehind : {B : Type 0} → List (Packet B) → Waiting B → Waiting B → Type 0
WaitBehind ps old new = (k : ℕ) → IsPeer old.me old.members k → waiting k new ≡ keep_last most_waiting (waiting k old ++ to k ps)

-- each outbox has its limit, and packets for its node alone
pub record AreKept {B : Type 0} (me members : ℕ) (boxes : List (Buffer (Stamped B))) : Type 0 where
  pub wide : length boxes ≡ suc members
  pub limits : (k : ℕ) → k ≤ members → (box_of k boxes).capacity ≡ limit me k
  pub within : (k : ℕ) → length (box_of k boxes).items ≤ (box_of k boxes).capacity
  pub filed : (k : ℕ) → All (λ s. s.packet.addressee ≡ k) (box_of k boxes).items

-- an outbox without its first packet, among all
abbrev pub without_first : {B : Type 0} → ℕ → List (Buffer (Stamped B)) → List (Buffer (Stamped B))
without_first k boxes = slice_set boxes k (buffer (drop 1 (box_of k boxes).items) (box_of k boxes).capacity)

abbrev pub first_stamp : {B : Type 0} → Buffer (Stamped B) → Option ℕ
first_stamp b = option_map (λ s. s.stamp) (slice_get b.items 0)

-- the older of the best so far and what is first at a place
abbrev pub older : Option First → ℕ → Option ℕ → Option First
older best k None = best
older None k (Some t) = Some (record { place = k; stamp = t })
older (Some f) k (Some t) = if nat_lt t f.stamp then Some (record { place = k; stamp = t }) else Some f

-- none of the first n outboxes has a first packet, or this one has, and none has an older one
abbrev pub IsOldestBelow : {B : Type 0} → ℕ → List (Buffer (Stamped B)) → Option First → Type 0
IsOldestBelow n boxes None = (k : ℕ) → k < n → first_stamp (box_of k boxes) ≡ None
IsOldestBelow n boxes (Some f) =
    (f.place < n) × (first_stamp (box_of f.place boxes) ≡ Some f.stamp)
    × ((k t : ℕ) → k < n → first_stamp (box_of k boxes) ≡ Some t → f.stamp ≤ t)

-- one packet more waits before the others of its outbox, among all outboxes
abbrev pub filed_first : {B : Type 0} → Stamped B → List (Buffer (Stamped B)) → List (Buffer (Stamped B))
filed_first s boxes =
    slice_set boxes s.packet.addressee (buffer (s ∷ (box_of s.packet.addressee boxes).items) (box_of s.packet.addressee boxes).capacity)

-- the packet, the oldest of those for a node, waits no longer; so fewer wait for it than may
pub record TakenFor {B : Type 0} (k : ℕ) (p : Packet B) (old new : Waiting B) : Type 0 where
  pub peer : IsPeer old.me old.members k
  pub addressed : p.addressee ≡ k
  pub first : waiting k old ≡ p ∷ waiting k new
  pub others : (j : ℕ) → (j ≡ k → ⊥) → waiting j new ≡ waiting j old
  pub room : length (waiting k new) < most_waiting

-- the packet waits before the others for its addressee
pub record WaitsFirst {B : Type 0} (p : Packet B) (old new : Waiting B) : Type 0 where
  pub first : waiting p.addressee new ≡ p ∷ waiting p.addressee old
  pub others : (j : ℕ) → (j ≡ p.addressee → ⊥) → waiting j new ≡ waiting j old

-- the packet, the oldest of those that are first in their outboxes, waits no longer
pub record Leaves {B : Type 0} (p : Packet B) (old new : Waiting B) : Type 0 where
  pub peer : IsPeer old.me old.members p.addressee
  pub first : waiting p.addressee old ≡ p ∷ waiting p.addressee new
  pub others : (k : ℕ) → (k ≡ p.addressee → ⊥) → waiting k new ≡ waiting k old
  pub stamp : ℕ
  pub stamped : first_stamp (box_of p.addressee old.boxes) ≡ Some stamp
  pub oldest : (k t : ℕ) → first_stamp (box_of k old.boxes) ≡ Some t → stamp ≤ t

-- of packets that go together a Forward gives way to a later one, which has what is still pending of it

abbrev pub is_forward_in : {B : Type 0} → Kind B → Bool
is_forward_in (Forward entries) = true
is_forward_in _ = false

abbrev pub is_forward : {B : Type 0} → Packet B → Bool
is_forward p = is_forward_in p.kind

abbrev pub due_of : {B : Type 0} → List (Packet B) → List (Packet B)
due_of [] = []
due_of (p ∷ ps) = (if is_forward p && list_any is_forward ps then [] else p ∷ []) ++ due_of ps

-- the oldest packets for a node wait no longer, of which these are due: at least one, and at most `most`. At least as much room is left as they
-- take
pub record ManyTaken {B : Type 0} (k most : ℕ) (due : List (Packet B)) (old new : Waiting B) : Type 0 where
  pub peer : IsPeer old.me old.members k
  pub addressed : All (λ p. p.addressee ≡ k) due
  pub front : List (Packet B)
  pub first : waiting k old ≡ front ++ waiting k new
  pub are_due : due ≡ due_of front
  pub short : length due ≤ most
  pub others : (j : ℕ) → (j ≡ k → ⊥) → waiting j new ≡ waiting j old
  pub room : length due + length (waiting k new) ≤ most_waiting

-- the same, or nothing was taken
abbrev pub MayTake : {B : Type 0} → ℕ → ℕ → List (Packet B) → Waiting B → Waiting B → Type 0
MayTake k most [] old new = new ≡ old
MayTake k most (p ∷ ps) old new = ManyTaken k most (p ∷ ps) old new

-- of the packets that a packet goes after, Forwards give way to it if it is one
abbrev pub giving_way : {B : Type 0} → Packet B → List (Packet B) → List (Packet B)
giving_way p ps = if is_forward p then filter (λ q. not (is_forward q)) ps else ps

-- the packets wait before the others for their addressee
pub record WaitFirst {B : Type 0} (k : ℕ) (ps : List (Packet B)) (old new : Waiting B) : Type 0 where
  pub first : waiting k new ≡ ps ++ waiting k old
  pub others : (j : ℕ) → (j ≡ k → ⊥) → waiting j new ≡ waiting j old
