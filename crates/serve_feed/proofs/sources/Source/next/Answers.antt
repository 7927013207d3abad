use Rattle.std.proofs.Common.{refl}
use Rattle.serve_feed.proofs.Giving.{given_still, given_next, given_held}
use Rattle.serve_feed.proofs.sources.Source.next.Goals as goal

pub returns-then-self-clause-takes : goal.returns-then-self-clause-takes
returns-then-self-clause-takes c = (refl, given_held c.args.self.now c.if-self.true)

pub returns-in-Nothing-clause-takes : goal.returns-in-Nothing-clause-takes
returns-in-Nothing-clause-takes c = given_still c.args.self.now c.next.new.self c.in-Nothing.ensures.finds.0

pub returns-in-End-clause-takes : goal.returns-in-End-clause-takes
returns-in-End-clause-takes c = (refl, given_still c.args.self.now c.next.new.self c.in-End.ensures.finds.0)

pub returns-in-Request-clause-takes : goal.returns-in-Request-clause-takes
returns-in-Request-clause-takes c =
    (refl, given_next c.args.self.now c.next.new.self c.in-Request.request c.if-self.false c.in-Request.ensures.finds)
