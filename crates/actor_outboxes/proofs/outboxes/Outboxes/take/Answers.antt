use Rattle.std.proofs.Common.{refl}
use Rattle.actor_outboxes.proofs.Filing.{none_waits}
use Rattle.actor_outboxes.proofs.outboxes.Outboxes.take.Goals as goal

pub returns-in-None-clause-none : goal.returns-in-None-clause-none
returns-in-None-clause-none g c = (refl, none_waits c.args.self.now c.in-None.ensures)
