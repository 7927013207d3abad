use Rattle.serve_feed.proofs.Giving.{given_still, given_ping}
use Rattle.serve_feed.proofs.sources.Source.take_ping.Goals as goal

pub returns-in-Some-clause-keeps : goal.returns-in-Some-clause-keeps
returns-in-Some-clause-keeps c = given_ping c.args.self.now c.take_ping.new.self c.in-Some.payload c.in-Some.ensures.takes

pub returns-in-None-clause-keeps : goal.returns-in-None-clause-keeps
returns-in-None-clause-keeps c = given_still c.args.self.now c.take_ping.new.self c.in-None.ensures.takes
