-- The rule of the table: its words, its slots and what each seat knows, between any two steps; and what each step means
-- (docs/ARCHITECTURE.md, "Threads").
use Rattle.std.specs.Prelude.{◌≡◌, ◌<◌, ◌≤◌, ℕ, zero, suc, ◌+◌, ◌*◌, ◌==◌, ◌^◌, Bool, true, false, Option, Some, None, MatchBool}
use Rattle.std.specs.Prelude.{List, [], ◌∷◌, ◌++◌, length, slice_index, MatchOption}
use mathlib.Core.Option.{some}
use mathlib.Core.Option as core
use lib.ListN.{get_elem?}
use Rattle.atomic_table.specs.Table.{State, Step, Me}
use Rattle.paxos_packets.specs.Members.{IsMember}
use Rattle.paxos_packets.specs.declared.packet.Packet.{Packet}
use Rattle.paxos_packets.specs.declared.rows.Rows.{Rows}
use Rattle.paxos_planning.specs.Node.{NodeState}
use Rattle.paxos_node.specs.Adopting.{Planned, adopted}
use Rattle.paxos_node.specs.Events.{owner, possible, packet_in}
use Rattle.paxos_node.specs.declared.event.Event.{Event}
use Rattle.paxos_node.specs.declared.outcome.Outcome.{Outcome}
use Rattle.paxos_node.specs.declared.view.Opened.TheVariants.{With}
use Rattle.cluster_world.specs.Has.{Has}
use Rattle.mail_table.specs.declared.part.Doing.TheVariants.{Idle}
use Rattle.mail_table.specs.declared.part.Part.{Part}
use Rattle.mail_table.specs.declared.size.Size.{Size}
use Rattle.mail_table.specs.Covered.{Covered, MayRenew}
use Rattle.mail_table.specs.Views.{box_of, place, through, is_sending, is_taking, unopened, only}
use Rattle.mail_table.specs.Views.{claiming, delivering, fetching, clearing, lost, moving, renewing}

-- the word of a node, after those of the boxes, and as far from others
abbrev pub word_of : ℕ → ℕ → ℕ
word_of n k = 8 * (n * n + place k)

-- the most events that a word counts
unfoldable pub most_events : ℕ
most_events = 4611686018427387904

-- what is in a place: a batch of packets, or nothing
abbrev pub Placed : Type 0 → Type 0
Placed B = Option (List (Packet B))

-- the four states of a box that holds so many packets at most: its word, whether its sender and its addressee are at it, what was posted and what
-- was received
pub data Box {B : Type 0} (most : ℕ) (homes : List (core.Option (Placed B))) (i word : ℕ) (sends takes : Bool) (posted received : List
    (Packet B))
    : Type 0 where
  empty : word ≡ 0 → get_elem? homes i ≡ some (some None) → sends ≡ false → takes ≡ false → posted ≡ received
      → Box most homes i word sends takes posted received
  claimed : word ≡ 1 → sends ≡ true → takes ≡ false → posted ≡ received → Box most homes i word sends takes posted received
  full : (ps : List (Packet B)) → word ≡ 2 → get_elem? homes i ≡ some (some (Some ps)) → length ps ≤ most → sends ≡ false → takes ≡ false
      → posted ≡ received ++ ps → Box most homes i word sends takes posted received
  emptied : word ≡ 3 → sends ≡ false → takes ≡ true → posted ≡ received → Box most homes i word sends takes posted received

-- what was posted is what was received, in order, each once, followed by at most so many packets more
abbrev pub IsAhead : {B : Type 0} → ℕ → List (Packet B) → List (Packet B) → Type 0
IsAhead {B} most posted received = (ps : List (Packet B)) × (length ps ≤ most) × (posted ≡ received ++ ps)

-- the parts in the view of the seat j are the nodes' parts, and lie in this seat alone
abbrev pub Fits : {B : Type 0} → (ℕ → Part B) → (ℕ → ℕ) → ℕ → List (Part B) → Type 0
Fits part seat j [] = Unit {0}
Fits part seat j (x ∷ xs) = (part x.me ≡ x) × (seat x.me ≡ j) × Fits part seat j xs

-- what a node posted it had sent, and to the node that the box is for
abbrev pub Posted : {B : Type 0} → ℕ → ℕ → Part B → Type 0
Posted {B} n k x =
    (b : ℕ) (p : Packet B) → IsMember n b → Has (through (box_of n k b) x.posted) p → Has x.seen.sent p × (p.addressee ≡ b)

-- n nodes; the box from a to b has the word and the slot with its number, and holds so many packets at most
pub record Kept {B : Type 0} (same : B → B → Bool) (n most : ℕ) (s : State (Placed B) (List (Part B))) : Type 0 where
  pub part : ℕ → Part B
  pub seat : ℕ → ℕ
  pub wide : length s.words ≡ 8 * (n * n + n)
  pub high : length s.homes ≡ 8 * (n * n)
  pub fits : (j : ℕ) (v : List (Part B)) → get_elem? s.views j ≡ some v → Fits part seat j v
  pub covered : Covered same n (λ k. (part k).seen)
  pub posted : (k : ℕ) → IsMember n k → Posted n k (part k)
  pub counted : (k : ℕ) → IsMember n k → slice_index s.words (word_of n k) ≡ (part k).events
  pub boxes : (a b : ℕ) → IsMember n a → IsMember n b
      → Box most s.homes (box_of n a b) (slice_index s.words (box_of n a b)) (is_sending (part a).doing (box_of n a b))
      (is_taking (part b).doing (box_of n a b)) (through (box_of n a b) (part a).posted) (through (box_of n a b) (part b).received)

-- the same of a table of this size
abbrev pub KeptIn : {B : Type 0} → (B → B → Bool) → Size → State (Placed B) (List (Part B)) → Type 0
KeptIn same size s = Kept same size.nodes size.most s

-- a seat that knows of one node, and holds these slots
abbrev pub Sat : Type 0 → Type 0
Sat B = Me (Placed B) (List (Part B))

abbrev pub sits : {B : Type 0} → Part B → List (ℕ × Placed B) → Sat B
sits x held = (x ∷ [], held)

-- the parts of the nodes from k + 1 on, m of them
abbrev pub rising : {B : Type 0} → ℕ → ℕ → List (Part B)
rising k zero = []
rising k (suc m) = unopened (suc k) ∷ rising (suc k) m

abbrev pub behind_first : {B : Type 0} → List (Part B) → List (Part B)
behind_first [] = []
behind_first (x ∷ xs) = xs

abbrev pub first_alone : {B : Type 0} → List (Part B) → List (Part B)
first_alone [] = []
first_alone (x ∷ xs) = x ∷ []

-- what each step means

abbrev pub Claims : {B : Type 0} → Step (Placed B) → Sat B → ℕ → Sat B → Type 0
Claims st m found w = MatchBool (found == 0) (w ≡ sits (claiming st.word (only m.0)) ((st.word, None) ∷ [])) (w ≡ sits (lost st.word
    (only m.0)) [])

abbrev pub Delivers : {B : Type 0} → Step (Placed B) → Sat B → ℕ → Sat B → Type 0
Delivers {B} st m found w =
    (ps : List (Packet B)) → m.1 ≡ (st.word, Some ps) ∷ [] → w ≡ sits (delivering st.word ps (only m.0)) []

-- packets, all of them for this node
abbrev pub AreTo : {B : Type 0} → ℕ → List (Packet B) → Type 0
AreTo {B} k ps = (p : Packet B) → Has ps p → p.addressee ≡ k

abbrev pub Fetches : {B : Type 0} → ℕ → Step (Placed B) → Sat B → ℕ → Sat B → Type 0
Fetches {B} most st m found w =
    MatchBool (found == 2)
    ((ps : List (Packet B)) × (length ps ≤ most) × AreTo (only m.0).me ps
    × (w ≡ sits (fetching st.word ps (only m.0)) ((st.word, Some ps) ∷ [])))
    (w ≡ sits (lost st.word (only m.0)) [])

-- a load that finds the word a step wants changes nothing; any other loses the try
abbrev pub Seeks : {B : Type 0} → ℕ → Step (Placed B) → Sat B → ℕ → Sat B → Type 0
Seeks wanted st m found w = MatchBool (found == wanted) (w ≡ m) (w ≡ sits (lost st.word (only m.0)) [])

abbrev pub SeeksEmpty : {B : Type 0} → Step (Placed B) → Sat B → ℕ → Sat B → Type 0
SeeksEmpty st m found w = Seeks 0 st m found w

abbrev pub SeeksFull : {B : Type 0} → Step (Placed B) → Sat B → ℕ → Sat B → Type 0
SeeksFull st m found w = Seeks 2 st m found w

abbrev pub Clears : {B : Type 0} → Step (Placed B) → Sat B → ℕ → Sat B → Type 0
Clears st m found w = w ≡ sits (clearing (only m.0)) []

abbrev pub Advances : {B : Type 0} → NodeState B → List (Packet B) → Step (Placed B) → Sat B → ℕ → Sat B → Type 0
Advances node packets st m found w = w ≡ sits (moving node packets (only m.0)) []

abbrev pub Renews : {B : Type 0} → Rows B → Step (Placed B) → Sat B → ℕ → Sat B → Type 0
Renews r st m found w = w ≡ sits (renewing r (only m.0)) []

-- what the steps ask of the seat's part

-- to try to post through this box: it is from this node
pub record MaySeek {B : Type 0} (n : ℕ) (x : Part B) (at : ℕ) : Type 0 where
  pub to : ℕ
  pub idle : x.doing ≡ Idle
  pub from : IsMember n x.me
  pub other : IsMember n to
  pub box : at ≡ box_of n x.me to

-- to post these packets through it: they were sent by this node, to the node that the box is for, and are so many at most
pub record MayPost {B : Type 0} (n most : ℕ) (x : Part B) (at : ℕ) (ps : List (Packet B)) : Type 0 where
  pub seek : MaySeek n x at
  pub sent : (p : Packet B) → Has ps p → Has x.seen.sent p
  pub addressed : AreTo seek.to ps
  pub short : length ps ≤ most

-- to fetch from this box: it is for this node
pub record MayFetch {B : Type 0} (n : ℕ) (x : Part B) (at : ℕ) : Type 0 where
  pub from : ℕ
  pub idle : x.doing ≡ Idle
  pub other : IsMember n from
  pub to : IsMember n x.me
  pub box : at ≡ box_of n from x.me

-- a delivered packet is one that this node received
abbrev pub Received : {B : Type 0} → ℕ → Part B → Event B → Type 0
Received n x e =
    MatchOption (packet_in e) (Unit {0}) (λ p. (a : ℕ) × IsMember n a × Has (through (box_of n a x.me) x.received) p)

-- a possible event of the node that the view shows
pub record MayMake {B : Type 0} (n : ℕ) (x : Part B) (e : Event B) : Type 0 where
  pub rows : Rows B
  pub opened : x.seen.opened ≡ With rows
  pub own : owner e ≡ x.me
  pub may : possible e x.seen.node ≡ true
  pub received : Received n x e

-- an outcome of a possible event of the node that the view shows
pub record Follows {B : Type 0} (same : B → B → Bool) (n : ℕ) (x : Part B) (o : Outcome B) : Type 0 where
  pub event : Event B
  pub rows : Rows B
  pub opened : x.seen.opened ≡ With rows
  pub own : owner event ≡ x.me
  pub may : possible event x.seen.node ≡ true
  pub is : Planned same n event x.seen.node o
  pub received : Received n x event
