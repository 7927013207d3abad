use Rattle.std.proofs.Common.{◌++◌, ap, ◌∙◌}
use Rattle.std.specs.Int.{bytes_high_first}
use Rattle.replica_machine.specs.Snapshot.{standings_octets}
use Rattle.replica_machine.proofs.Lists.{two_put_ok}
use Rattle.replica_machine.proofs.head.put_head.Goals as goal

pub returns-clause-ok : goal.returns-clause-ok
returns-clause-ok c =
    let old = c.args.out.now.items in
    two_put_ok c.put_standings.result (bytes_high_first 8 c.args.head.now.floor) (standings_octets c.args.head.now.standings) old
    c.extend_from_slice.new.self.items c.put_standings.new.out.items
    (c.in_ok-extend_from_slice.ensures.items ∙ ap (λ l. old ++ l) c.to_be_bytes.ensures)
    c.put_standings.ensures.ok
