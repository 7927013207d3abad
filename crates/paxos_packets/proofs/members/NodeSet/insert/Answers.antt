use Rattle.std.proofs.Common.{rules}
use Rattle.paxos_packets.proofs.members.NodeSet.insert.Goals as goal

pub returns-then-node-lt8-clause-value : goal.returns-then-node-lt8-clause-value
returns-then-node-lt8-clause-value c = search rules

pub returns-then-node-lt8-clause-meaning : goal.returns-then-node-lt8-clause-meaning
returns-then-node-lt8-clause-meaning c = search rules
