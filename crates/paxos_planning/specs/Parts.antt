-- The parts of a node, and what they know of it (docs/CONSENSUS.md, "One node").
use Rattle.std.specs.Prelude.{ℕ, true, Option, Some, None, List, [], ◌∷◌, ◌++◌, take, map}
use Rattle.paxos_packets.specs.declared.entry.Entry.{Entry}
use Rattle.paxos_packets.specs.declared.entry.Entry.TheVariants.{Noop, Boot, Lost, Item}
use Rattle.paxos_packets.specs.declared.rows.Rows.{Rows}
use Rattle.paxos_proposer.specs.Role.{ProposerState}
use Rattle.paxos_proposer.specs.State as proposing
use Rattle.paxos_learner.specs.declared.learned.LearnedEntry.{LearnedEntry}
use Rattle.paxos_learner.specs.Learner.{LearnerState}
use Rattle.paxos_learner.specs.Learner as learning
use Rattle.paxos_planning.specs.Node.{NodeState}

-- whose parts they are
pub record Whole (B : Type 0) : Type 0 where
  pub me : ℕ
  pub members : ℕ
  pub state : NodeState B

-- a node that is up
abbrev pub whole : {B : Type 0} → ℕ → ℕ → Rows B → ProposerState B → LearnerState B → List (Entry B) → List (Entry B) → ℕ → Whole B
whole me members rows proposer learner applied pending taken =
    record {
      me = me;
      members = members;
      state = record {
        rows = rows;
        up = true;
        proposer = proposer;
        learner = learner;
        applied = applied;
        pending = pending;
        taken = taken;
      };
    }

-- the proposer and the learner of a node, with what they know of it

abbrev pub proposer_of : {B : Type 0} → ℕ → ℕ → NodeState B → proposing.State B
proposer_of me members x = record { me = me; members = members; proposer = x.proposer }

abbrev pub learner_of : {B : Type 0} → ℕ → NodeState B → learning.State B
learner_of members x = record { members = members; learner = x.learner }

-- the first entries that a learner learned, slot by slot
abbrev pub first_learned : {B : Type 0} → ℕ → List (LearnedEntry B) → List (Entry B)
first_learned n learned = map (λ l. l.entry) (take n learned)

-- an entry becomes pending; an Item counts, by its number
abbrev pub taken_with : {B : Type 0} → Entry B → ℕ → ℕ
taken_with Noop n = n
taken_with (Boot k b) n = n
taken_with (Lost k b) n = n
taken_with (Item k b q t x) n = q

abbrev pub pending_with : {B : Type 0} → Option (Entry B) → List (Entry B) → List (Entry B)
pending_with None es = es
pending_with (Some e) es = es ++ e ∷ []

abbrev pub counted_with : {B : Type 0} → Option (Entry B) → ℕ → ℕ
counted_with None n = n
counted_with (Some e) n = taken_with e n
