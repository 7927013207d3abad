use Rattle.serve_feed.proofs.feed.ClientFeed.take_arrivals.Goals as goal

pub loop-preserved : goal.loop-preserved
loop-preserved c = (c.loop.invariant.0, λ given tells. c.come.ensures.tells given (c.loop.invariant.1 given tells))
