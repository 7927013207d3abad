use Rattle.serve_feed.proofs.Giving.{given_still}
use Rattle.serve_feed.proofs.sources.Source.next_aside.Goals as goal

pub returns-clause-keeps : goal.returns-clause-keeps
returns-clause-keeps c =
    λ acts is.
    c.take_ping.ensures.keeps acts
    (c.hold.ensures.keeps acts (given_still c.args.self.now c.is_abandoned-is_abandoned.new.self c.is_abandoned-is_abandoned.ensures.received acts is))
