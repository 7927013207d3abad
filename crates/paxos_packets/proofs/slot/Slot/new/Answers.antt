use Rattle.std.proofs.Common.{rules}
use Rattle.paxos_packets.proofs.slot.Slot.new.Goals as goal

pub invariant_of-result : goal.invariant_of-result
invariant_of-result c = search rules

pub returns-then-contains-clause-valid : goal.returns-then-contains-clause-valid
returns-then-contains-clause-valid c = search rules
