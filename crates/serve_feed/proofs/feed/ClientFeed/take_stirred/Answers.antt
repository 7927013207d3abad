use Rattle.std.proofs.Common.{sym, subst}
use Rattle.serve_feed.specs.Tells.{Tells}
use Rattle.serve_feed.proofs.feed.ClientFeed.take_stirred.Goals as goal

pub returns-then-take_stirred-clause-tells : goal.returns-then-take_stirred-clause-tells
returns-then-take_stirred-clause-tells c =
    λ given tells. subst (λ s. Tells s given) (sym c.stir.ensures.sources) (c.take_arrivals.ensures.tells given tells)
