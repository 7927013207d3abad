use Rattle.replica_machine.specs.Snapshot.{head_octets}
use Rattle.replica_machine.proofs.Lists.{two_put}
use Rattle.replica_machine.proofs.head.put_kept.Goals as goal

pub returns-clause-ok : goal.returns-clause-ok
returns-clause-ok c =
    two_put (head_octets c.args.head.now.floor c.args.head.now.standings) c.args.machine.now c.args.out.now.items
    c.put_head.new.out.items c.extend_from_slice.new.self.items c.in_ok-put_head.ensures.ok c.in_ok-extend_from_slice.ensures.items
