-- The laws over every list of events (docs/CONSENSUS.md, "What holds over every list of events").
use Rattle.std.specs.Prelude.{◌≡◌, ◌⊎◌, ℕ, suc, ◌≤◌, Bool, true, false, Some, List, [], ◌∷◌, ◌++◌, slice_get}
use Rattle.cluster_world.specs.Has.{Has}
use Rattle.paxos_packets.specs.declared.entry.Entry.{Entry}
use Rattle.paxos_packets.specs.declared.packet.Kind.TheVariants.{Learned}
use Rattle.paxos_learner.specs.declared.learned.LearnedEntry.{LearnedEntry}
use Rattle.paxos_learner.specs.Learned.{is_learned}
use Rattle.paxos_node.specs.declared.event.Event.{Event}
use Rattle.paxos_planning.specs.Node.{log_length}
use Rattle.paxos_node.specs.Events.{owner, possible, outcome_of}
use Rattle.cluster_world.specs.World.{Applied, World, node_at, was_sent, played, log_of}
use Rattle.cluster_world.specs.Chosen.{WasSent, Chosen}
use Rattle.cluster_world.specs.Answers.{log_after}
use Rattle.cluster_world.specs.Steps.{may}

-- the node has learned this
abbrev pub HasLearned : {B : Type 0} → World B → ℕ → LearnedEntry B → Type 0
HasLearned w node f = Has (node_at w.nodes node).learner.learned f

-- agreement

-- what is learned is chosen
abbrev pub LearnedIsChosen : (B : Type 0) → (B → B → Bool) → Type 0
LearnedIsChosen B same =
    (members : ℕ) → 3 ≤ members → (events : List (Event B)) (node : ℕ) (f : LearnedEntry B) →
    HasLearned (played same members events) node f → Chosen members (played same members events).sent f.slot f.entry

-- two chosen entries of one slot are equal
abbrev pub ChosenIsOne : (B : Type 0) → (B → B → Bool) → Type 0
ChosenIsOne B same =
    (members : ℕ) → 3 ≤ members → (events : List (Event B)) (slot : ℕ) (d e : Entry B) →
    Chosen members (played same members events).sent slot d → Chosen members (played same members events).sent slot e → d ≡ e

-- what a packet reports as learned is chosen
abbrev pub ToldIsChosen : (B : Type 0) → (B → B → Bool) → Type 0
ToldIsChosen B same =
    (members : ℕ) → 3 ≤ members → (events : List (Event B)) (node slot : ℕ) (e : Entry B) →
    WasSent (played same members events).sent node (Learned slot e) → Chosen members (played same members events).sent slot e

-- no two nodes, nor one at two moments, learn different entries in one slot
abbrev pub LearnedIsOne : (B : Type 0) → (B → B → Bool) → Type 0
LearnedIsOne B same =
    (members : ℕ) → 3 ≤ members → (early later : List (Event B)) (j k : ℕ) (f g : LearnedEntry B) →
    HasLearned (played same members early) j f → HasLearned (played same members (early ++ later)) k g → f.slot ≡ g.slot → f.entry ≡ g.entry

-- no event brings a node another entry of a slot that it has learned
abbrev pub NeverDisagrees : (B : Type 0) → (B → B → Bool) → Type 0
NeverDisagrees B same =
    (members : ℕ) → 3 ≤ members → (events : List (Event B)) (e : Event B) →
    was_sent same e (played same members events).sent ≡ true → possible e (node_at (played same members events).nodes (owner e)) ≡ true →
    (outcome_of same members e (node_at (played same members events).nodes (owner e))).disagrees ≡ false

-- a node has applied what it has learned, up to the first slot that it lacks
abbrev pub NothingWaits : (B : Type 0) → (B → B → Bool) → Type 0
NothingWaits B same =
    (members : ℕ) (events : List (Event B)) (node : ℕ) →
    is_learned (suc (log_length (node_at (played same members events).nodes node))) (node_at (played same members events).nodes node).learner.learned
    ≡ false

-- log agreement

-- each entry of a log is chosen in its slot
abbrev pub LogIsChosen : (B : Type 0) → (B → B → Bool) → Type 0
LogIsChosen B same =
    (members : ℕ) → 3 ≤ members → (events : List (Event B)) (node i : ℕ) (e : Entry B) →
    slice_get (log_of (played same members events) node) i ≡ Some e → Chosen members (played same members events).sent (suc i) e

abbrev pub IsPrefixOf : {A : Type 0} → List A → List A → Type 0
IsPrefixOf {A} xs ys = (rest : List A) × (xs ++ rest ≡ ys)

-- of two logs, at any two moments, one is a prefix of the other
abbrev pub LogsArePrefixes : (B : Type 0) → (B → B → Bool) → Type 0
LogsArePrefixes B same =
    (members : ℕ) → 3 ≤ members → (early later : List (Event B)) (j k : ℕ) →
    IsPrefixOf (log_of (played same members early) j) (log_of (played same members (early ++ later)) k)
    ⊎ IsPrefixOf (log_of (played same members (early ++ later)) k) (log_of (played same members early) j)

-- what a node had applied once an event was over: its log before it with what it applied in it, a Lost of its own boot included
abbrev pub applied_behind : {B : Type 0} → Applied B → List (Entry B)
applied_behind a = a.log ++ a.entries

-- whatever a node ever applied, in whatever boot, is chosen in its slot
abbrev pub AppliedIsChosen : (B : Type 0) → (B → B → Bool) → Type 0
AppliedIsChosen B same =
    (members : ℕ) → 3 ≤ members → (events : List (Event B)) (a : Applied B) (i : ℕ) (e : Entry B) →
    Has (played same members events).applied a → slice_get (applied_behind a) i ≡ Some e →
    Chosen members (played same members events).sent (suc i) e

-- of two such lists, at any two moments, one is a prefix of the other
abbrev pub AppliedArePrefixes : (B : Type 0) → (B → B → Bool) → Type 0
AppliedArePrefixes B same =
    (members : ℕ) → 3 ≤ members → (early later : List (Event B)) (a b : Applied B) →
    Has (played same members early).applied a → Has (played same members (early ++ later)).applied b →
    IsPrefixOf (applied_behind a) (applied_behind b) ⊎ IsPrefixOf (applied_behind b) (applied_behind a)

-- the log with which an event leaves its node is such a list, also if it goes down with it
abbrev pub LogAfterIsApplied : (B : Type 0) → (B → B → Bool) → Type 0
LogAfterIsApplied B same =
    (members : ℕ) (events : List (Event B)) (e : Event B) → may same (played same members events) e ≡ true →
    (a : Applied B) × Has (played same members (events ++ e ∷ [])).applied a
    × (applied_behind a ≡ log_after same members (played same members events) e)

-- and so is each log, but for the empty one; that of a snapshot is one, too
abbrev pub LogIsApplied : (B : Type 0) → (B → B → Bool) → Type 0
LogIsApplied B same =
    (members : ℕ) (events : List (Event B)) (node : ℕ) →
    (log_of (played same members events) node ≡ [])
    ⊎ ((a : Applied B) × Has (played same members events).applied a × (applied_behind a ≡ log_of (played same members events) node))
