use Rattle.std.proofs.Common.{subst}
use Rattle.actor_outboxes.specs.Outboxes.{Waiting, HasLimits}
use Rattle.actor_outboxes.proofs.Filing.{limited}
use Rattle.actor_outboxes.proofs.outboxes.Outboxes.limits.Goals as goal

pub returns : goal.returns
returns g c =
    subst (λ (w : Waiting g.row.B.Denot). HasLimits w) c.self.view_is (λ k peer. limited _ _ _ c.self.invariant k peer)
