use Rattle.std.proofs.Common.{◌≡◌, ◌∙◌, refl, sym, None, Some}
use Rattle.replica_machine.proofs.Applying.{applies, learned_next}
use Rattle.replica_machine.proofs.log.AppliedLog.advance.Goals as goal

pub returns-in_default-apply-clause-waits : goal.returns-in_default-apply-clause-waits
returns-in_default-apply-clause-waits g c = λ alive none.
    let entry = c.in-Some-swap_remove.entry in
    let found = c.in-Some-swap_remove.ensures.value in
    let stands = learned_next c.args.self.now _ c.in-Some.slot entry c.self.view_is c.in-Some.ensures found in
    let differ : None ≡ Some entry = sym none ∙ stands in
    cc

pub returns-clause-applies : goal.returns-clause-applies
returns-clause-applies g c =
    let entry = c.in-Some-swap_remove.entry in
    let removed = c.in-Some-swap_remove.ensures in
    let done = c.in-Ok.ensures in
    rw done.slot
    (applies g.M.Machine.steps g.M.Machine.content c.args.self.now _ _ c.in-Some.slot entry
    c.in-Ok.step.took c.in-Ok.step.says.items c.self.view_is c.in-Some.ensures removed.value removed.updates.0
    refl done.ok c.if-self.false done.took done.roll done.content done.says)
