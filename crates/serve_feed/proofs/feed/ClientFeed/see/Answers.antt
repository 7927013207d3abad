use Rattle.std.proofs.Common.{sym, subst}
use Rattle.serve_feed.specs.Tells.{Tells}
use Rattle.serve_feed.proofs.feed.ClientFeed.see.Goals as goal

pub returns-then-round-self-clause-tells : goal.returns-then-round-self-clause-tells
returns-then-round-self-clause-tells c =
    λ given tells. c.count.ensures.tells given (subst (λ l. Tells l.sources given) (sym c.begin_acts.ensures.lanes) tells)
