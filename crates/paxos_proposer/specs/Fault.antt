-- The numbers of a proposer's faults.
use Rattle.std.specs.Prelude.{ℕ}
use Rattle.paxos_proposer.specs.declared.fault.ProposerFault.{ProposerFault}
use Rattle.paxos_proposer.specs.declared.fault.ProposerFault.TheVariants.{Rounds, SlotsFull, NotLeading, Memory}

abbrev pub number_of : ProposerFault → ℕ
number_of Rounds = 51
number_of SlotsFull = 52
number_of NotLeading = 53
number_of Memory = 54
