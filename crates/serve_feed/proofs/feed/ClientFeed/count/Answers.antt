use Rattle.std.proofs.Common.{◌∙◌, sym, subst}
use Rattle.serve_feed.specs.Tells.{Tells}
use Rattle.serve_feed.proofs.feed.ClientFeed.count.Goals as goal

pub returns-then-take_waited-clause-tells : goal.returns-then-take_waited-clause-tells
returns-then-take_waited-clause-tells c =
    λ given tells.
    let watched = subst (λ s. Tells s given) (sym (c.watch_log.ensures.sources ∙ c.watch.ensures.sources)) tells in
    let judged = c.judge.ensures.tells given (c.take_stirred.ensures.tells given watched) in
    let counted = subst (λ s. Tells s given) (sym c.count_time.ensures.sources) judged in
    subst (λ s. Tells s given) (sym c.ignore_slow.ensures.sources) counted

pub returns-else-take_waited-clause-tells : goal.returns-else-take_waited-clause-tells
returns-else-take_waited-clause-tells c =
    λ given tells.
    let watched = subst (λ s. Tells s given) (sym (c.watch_log.ensures.sources ∙ c.watch.ensures.sources)) tells in
    let judged = c.judge.ensures.tells given (c.take_stirred.ensures.tells given watched) in
    subst (λ s. Tells s given) (sym c.count_time.ensures.sources) judged
