use Rattle.std.proofs.Common.{List, length, ap}
use Rattle.std.specs.Prelude.{nat_lt}
use Rattle.paxos_packets.specs.declared.entry.Entry.{Entry}
use Rattle.paxos_node.specs.Events.{most_pending}
use Rattle.paxos_node.proofs.node.Node.has_room.Goals as goal

pub returns : goal.returns
unfolding most_pending
returns g c = ap (λ (pending : List (Entry g.row.B.Denot)). nat_lt (length pending) 1024) c.pending.ensures
