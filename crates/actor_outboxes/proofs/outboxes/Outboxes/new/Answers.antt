use Rattle.std.proofs.Common.{suc}
use Rattle.actor_outboxes.proofs.Filing.{empty_kept, empty_waits}
use Rattle.actor_outboxes.proofs.outboxes.Outboxes.new.Goals as goal

pub invariant_of-result : goal.invariant_of-result
invariant_of-result g c = rw c.in_ok-boxes.ensures (empty_kept c.args.me c.args.members)

pub returns-clause-empty : goal.returns-clause-empty
returns-clause-empty g c = λ k. empty_waits c.args.me (suc c.args.members) _ c.in_ok-boxes.ensures k
