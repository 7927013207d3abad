-- The numbers of a learner's faults.
use Rattle.std.specs.Prelude.{ℕ}
use Rattle.paxos_learner.specs.declared.fault.LearnerFault.{LearnerFault}
use Rattle.paxos_learner.specs.declared.fault.LearnerFault.TheVariants.{Disagree, Memory}

abbrev pub number_of : LearnerFault → ℕ
number_of Disagree = 55
number_of Memory = 56
