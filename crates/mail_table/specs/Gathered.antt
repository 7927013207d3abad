-- What the seats of all nodes know together once they are gathered (docs/ARCHITECTURE.md, "Threads").
use Rattle.std.specs.Prelude.{◌≡◌, ◌⊎◌, ℕ, Bool, List, [], ◌++◌, length, MatchBool}
use Rattle.cluster_world.specs.Has.{Has}
use Rattle.cluster_world.specs.Laws.{IsPrefixOf}
use Rattle.paxos_learner.specs.declared.learned.LearnedEntry.{LearnedEntry}
use Rattle.paxos_node.specs.Applying.{base}
use Rattle.paxos_node.specs.declared.view.Opened.{Opened}
use Rattle.paxos_node.specs.declared.view.Opened.TheVariants.{Never, With}
use Rattle.paxos_packets.specs.Members.{IsMember}
use Rattle.paxos_packets.specs.Snapshot.{floor_in}
use Rattle.paxos_packets.specs.declared.entry.Entry.{Entry}
use Rattle.paxos_packets.specs.declared.packet.Kind.TheVariants.{Learned}
use Rattle.paxos_packets.specs.declared.packet.Packet.{Packet}
use Rattle.paxos_packets.specs.declared.rows.Rows.{Rows}
use Rattle.paxos_planning.specs.Node.{NodeState}
use Rattle.replica_machine.specs.Roll.{standing}
use Rattle.mail_table.specs.declared.part.Part.{Part}
use Rattle.mail_table.specs.Boxes.{IsAhead, Posted}
use Rattle.mail_table.specs.Covered.{Agreed, Covered, Matches}
use Rattle.mail_table.specs.Views.{box_of, length_in, through}

-- of n nodes all parts are known: the views are covered, what was posted was sent, and what was received is what was posted, in order, each
-- once, but for the packets that are in the box, of which it holds so many at most
pub record Gathered {B : Type 0} (same : B → B → Bool) (n most : ℕ) (parts : List (Part B)) : Type 0 where
  pub part : ℕ → Part B
  pub mine : (x : Part B) → Has parts x → part x.me ≡ x
  pub all : (k : ℕ) → IsMember n k → Has parts (part k)
  pub named : (k : ℕ) → IsMember n k → (part k).me ≡ k
  pub covered : Covered same n (λ k. (part k).seen)
  pub posted : (k : ℕ) → IsMember n k → Posted n k (part k)
  pub boxes : (a b : ℕ) → IsMember n a → IsMember n b → IsAhead most (through (box_of n a b) (part a).posted) (through (box_of n a b) (part
      b).received)

-- the rows with which the nodes were opened, and some for those that nobody opened, agree
abbrev pub Opening : {B : Type 0} → (B → B → Bool) → ℕ → List (Part B) → (ℕ → Rows B) → Type 0
Opening {B} same n parts rows = ((x : Part B) → Has parts x → Matches x.seen.opened (rows x.me)) × Agreed same n rows

-- what one node posted to another is what this one received of it, in order, each once, followed by what the box holds: so many packets at most
abbrev pub PostsArrive : {B : Type 0} → ℕ → ℕ → List (Part B) → Type 0
PostsArrive {B} n most parts =
    (x y : Part B) → Has parts x → Has parts y → IsMember n x.me → IsMember n y.me
    → IsAhead most (through (box_of n x.me y.me) x.posted) (through (box_of n x.me y.me) y.received)

-- the whole log of a node that is up: as many entries as its floor says, after which the nodes stand as they do by its snapshot, and then what it
-- has applied
pub record IsWholeLog {B : Type 0} (x : NodeState B) (log : List (Entry B)) : Type 0 where
  pub below : List (Entry B)
  pub is : log ≡ below ++ x.applied
  pub long : length below ≡ floor_in x.rows.snapshot
  pub stands : (k : ℕ) → base x.rows k ≡ standing k below

-- as a view shows it: empty if the node is down, or was never opened
abbrev pub ShowsLog : {B : Type 0} → Opened B → NodeState B → List (Entry B) → Type 0
ShowsLog Never x log = log ≡ []
ShowsLog (With r) x log = MatchBool x.up (IsWholeLog x log) (log ≡ [])

-- whole logs of all nodes, each as long as its view tells; of each two one is a prefix of the other
pub record AreLogs {B : Type 0} (n : ℕ) (parts : List (Part B)) : Type 0 where
  pub log : ℕ → List (Entry B)
  pub shown : (x : Part B) → Has parts x → IsMember n x.me → ShowsLog x.seen.opened x.seen.node (log x.me)
  pub long : (x : Part B) → Has parts x → IsMember n x.me → length (log x.me) ≡ length_in x.seen
  pub agree : (j k : ℕ) → IsPrefixOf (log j) (log k) ⊎ IsPrefixOf (log k) (log j)

-- there are such logs
abbrev pub LogsAgree : {B : Type 0} → (B → B → Bool) → ℕ → List (Part B) → Type 0
LogsAgree {B} same n parts = (rows : ℕ → Rows B) → Opening same n parts rows → AreLogs n parts

-- if a node received a Learned of a slot, no node that was opened has learned another entry there
abbrev pub LearnersAgree : {B : Type 0} → (B → B → Bool) → ℕ → List (Part B) → Type 0
LearnersAgree {B} same n parts =
    (rows : ℕ → Rows B) → Opening same n parts rows → (x y : Part B) → Has parts x → Has parts y → IsMember n x.me → IsMember n y.me
    → (a : ℕ) (p : Packet B) (slot : ℕ) (e : Entry B) → IsMember n a → Has (through (box_of n a x.me) x.received) p
    → p.kind ≡ Learned slot e
    → (r : Rows B) (f : LearnedEntry B) → y.seen.opened ≡ With r → Has y.seen.node.learner.learned f → f.slot ≡ slot → f.entry ≡ e
