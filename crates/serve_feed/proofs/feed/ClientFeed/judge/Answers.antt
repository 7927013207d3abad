use Rattle.std.proofs.Common.{ap, sym, subst}
use Rattle.serve_feed.specs.Tells.{Tells}
use Rattle.serve_feed.proofs.feed.ClientFeed.judge.Goals as goal
use Rattle.serve_feed.proofs.feed.ClientFeed.judge.Goals.{then-is_idle, else-is_idle}

pub returns-clause-tells : goal.returns-clause-tells
returns-clause-tells c =
    λ given tells.
    elim c.if-is_idle.branch [
      | then-is_idle w ↦ subst (λ s. Tells s given) (sym (ap (λ s. s.lanes.sources) w.self-is)) (w.is_woken_soon.ensures.tells given tells)
      | else-is_idle w ↦ subst (λ s. Tells s given) (sym (ap (λ s. s.lanes.sources) w.self-is)) tells
    ]
