use Rattle.std.proofs.Common.{sym, subst}
use Rattle.serve_feed.specs.Tells.{Tells}
use Rattle.serve_feed.proofs.lanes.Lanes.step_aside.Goals as goal

pub returns-in-Nothing : goal.returns-in-Nothing
returns-in-Nothing c =
    record { tells = λ given tells. subst (λ s. Tells s given) (sym c.leave_aside.ensures.sources) (c.in-Nothing.ensures.finds given tells) }

pub returns-in-Ping : goal.returns-in-Ping
returns-in-Ping c =
    record { tells = λ given tells. subst (λ s. Tells s given) (sym c.answer_aside.ensures.sources) (c.in-Ping.ensures.finds given tells) }

pub returns-in-Gone : goal.returns-in-Gone
returns-in-Gone c = record { tells = λ given tells. c.forget.ensures.forgets given (c.in-Gone.ensures.finds given tells) }
