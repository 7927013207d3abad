use Rattle.std.proofs.Common.{sym, subst}
use Rattle.std.specs.Prelude.{All}
use Rattle.std.proofs.lemmas.List.Elements.{All-take}
use Rattle.test_stands.specs.Fresh.{IsFresh}
use Rattle.test_stands.proofs.standing.open_all.Goals as goal

pub loop-preserved : goal.loop-preserved
loop-preserved g c =
    subst (All (IsFresh c.args.mail.now)) (sym c.in-Some.ensures.rest)
    (All-take (IsFresh c.args.mail.now) _ c.loop.seats.items c.loop.invariant)
