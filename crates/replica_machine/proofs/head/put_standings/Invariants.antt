use Rattle.std.proofs.Common.{◌≡◌, ◌++◌, drop}
use Rattle.replica_machine.specs.Snapshot.{standings_octets}
use Rattle.replica_machine.proofs.head.put_standings.Given as goal

abbrev pub invariant-loop-standing : goal.invariant-loop-standing
invariant-loop-standing l =
    l.out.items ++ standings_octets (drop l.standing-index l.standings) ≡ l.fn.out.items ++ standings_octets l.standings
