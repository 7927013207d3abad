use Rattle.std.proofs.Common.{refl, sym}
use Rattle.actor_run.specs.Events.{asked_in}
use Rattle.serve_feed.proofs.Giving.{carried}
use Rattle.serve_feed.proofs.feed.ClientFeedRoundFeedActSay.next.Goals as goal

pub returns : goal.returns
returns c =
    λ given got saw.
    let now = c.see.new.self in
    let tells = c.see.ensures.tells (asked_in c.args.self.now.node given) saw in
    c.give.ensures given (carried c.args.self.now.node now.node now.lanes.sources now.lanes.sources given (sym c.see.ensures.node) refl tells)
