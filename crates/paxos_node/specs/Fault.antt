-- The numbers of a node's faults.
use Rattle.std.specs.Prelude.{ℕ}
use Rattle.paxos_node.specs.declared.fault.NodeFault.{NodeFault}
use Rattle.paxos_node.specs.declared.fault.NodeFault.TheVariants.{Rounds, Full, Disagree, Memory}

abbrev pub number_of : NodeFault → ℕ
number_of Rounds = 51
number_of Full = 74
number_of Disagree = 55
number_of Memory = 54
