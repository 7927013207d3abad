use Rattle.std.specs.Prelude.{All}
use Rattle.test_stands.specs.Fresh.{IsFresh}
use Rattle.test_stands.proofs.standing.open_all.Given as goal

-- the seats that are left are fresh
abbrev pub invariant-loop : goal.invariant-loop
invariant-loop g l = All (IsFresh l.mail) l.seats.items
