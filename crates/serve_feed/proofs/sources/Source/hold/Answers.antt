use Rattle.serve_feed.proofs.Giving.{given_still, given_holds}
use Rattle.serve_feed.proofs.sources.Source.hold.Goals as goal

pub returns-then-not-take_connect-clause-keeps : goal.returns-then-not-take_connect-clause-keeps
returns-then-not-take_connect-clause-keeps c =
    given_still c.args.self.now c.take_connect.new.self c.if-not-take_connect.ensures.takes

pub returns-clause-keeps : goal.returns-clause-keeps
returns-clause-keeps c =
    given_holds c.args.self.now c.take_connect.new.self c.if-self.false c.if-not-take_connect.ensures.takes
