use Rattle.std.proofs.Common.{sym, subst}
use Rattle.serve_feed.specs.Tells.{Tells}
use Rattle.serve_feed.proofs.lanes.Lanes.step.Goals as goal

pub returns-in-Nothing : goal.returns-in-Nothing
returns-in-Nothing c =
    record { steps = λ given tells. subst (λ s. Tells s given) (sym c.leave.ensures.sources) (c.in-Nothing.ensures.finds given tells) }

pub returns-in-End : goal.returns-in-End
returns-in-End c = record { steps = λ given tells. c.remove.ensures.removes given (c.in-End.ensures.finds given tells) }
