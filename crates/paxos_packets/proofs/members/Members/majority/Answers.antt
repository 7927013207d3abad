use Rattle.std.proofs.Common.{rules}
use Rattle.paxos_packets.proofs.members.Members.majority.Goals as goal

pub returns-clause-value : goal.returns-clause-value
returns-clause-value c = search rules

pub returns-clause-meaning : goal.returns-clause-meaning
returns-clause-meaning c = search rules
