-- A proposer and a learner that know a node's number and members are those of the node.
use Rattle.std.proofs.Common.{◌≡◌, ℕ, max, arith}
use Rattle.paxos_proposer.specs.State as proposing
use Rattle.paxos_learner.specs.Learner as learning

pub proposer_is : {B : Type 0} (s : proposing.State B) (me members : ℕ) → s.me ≡ me → s.members ≡ members
    → s ≡ record { me = me; members = members; proposer = s.proposer }
proposer_is s me members p q = λ i. record { me = p i; members = q i; proposer = s.proposer }

pub learner_is : {B : Type 0} (s : learning.State B) (members : ℕ) → s.members ≡ members → s ≡ record { members = members; learner = s.learner }
learner_is s members p = λ i. record { members = p i; learner = s.learner }

pub held_is : {B : Type 0} (l : learning.Held B) (members : ℕ) → l.state.members ≡ members
    → l ≡ record { state = record { members = members; learner = l.state.learner }; room = l.room }
held_is l members p = λ i. record { state = record { members = p i; learner = l.state.learner }; room = l.room }

pub seen_first : (round : ℕ) → max 0 round ≡ round
seen_first round = omega arith
