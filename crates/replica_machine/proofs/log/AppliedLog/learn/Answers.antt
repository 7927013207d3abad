use Rattle.std.proofs.Common.{arith}
use Rattle.std.proofs.lemmas.Grind.{common_steps}
use Rattle.replica_machine.proofs.Applying.{learns}
use Rattle.replica_machine.proofs.log.AppliedLog.learn.Goals as goal

pub returns-clause-ok : goal.returns-clause-ok
returns-clause-ok g c =
    let free = c.in_default.ensures.value in
    let put = c.in_ok-insert.ensures.updates.0 in
    λ above. learns c.args.slot c.args.entry c.args.self.now _ _ c.self.view_is c.learned.ensures.slot above free put

pub returns-in-Some-clause-ok : goal.returns-in-Some-clause-ok
returns-in-Some-clause-ok g c = grind (arith, common_steps)

pub returns-in-Some-clause-disagree : goal.returns-in-Some-clause-disagree
returns-in-Some-clause-disagree g c = grind (arith, common_steps)
