use Rattle.std.proofs.Common.{◌≡◌, ◌++◌, map}
use Rattle.std.proofs.lemmas.Result.{IfOk-weaker}
use Rattle.replica_machine.specs.Log.{machine_from}
use Rattle.actor_parts.specs.Steps.{Applied}
use Rattle.actor_parts.proofs.Carrying.{prefix_whole, on_err_still}
use Rattle.actor_parts.proofs.Sayings.{own_in, own_is}
use Rattle.actor_parts.proofs.following.apply_all.Goals as goal

pub returns-clause-ok : goal.returns-clause-ok
returns-clause-ok g c =
    let steps = g.M.Machine.steps in
    let done = c.in-Ok.ensures in
    let node = c.args.node in
    let boot = c.args.boot in
    IfOk-weaker c.collect_own.result (λ says. says.items ≡ own_in g.M.Machine.steps.to node boot c.in-Ok.said.items)
    (λ says. Applied steps g.M.Machine.content node boot c.args.entries.items c.args.log.now c.append.new.self says.items)
    (λ says kept. record {
      applied = done.applied;
      floor = c.append.ensures.floor;
      alive = done.alive;
      says = λ first under l. own_is (machine_from steps first) node boot (under ++ c.args.log.now.applied) c.args.entries.items
          (map (λ more. more.items) c.in-Ok.said.items) says.items kept (done.told first under l);
      follows = done.goes_on;
    })
    c.collect_own.ensures

pub returns-clause-err : goal.returns-clause-err
returns-clause-err g c =
    on_err_still c.collect_own.result _
    (prefix_whole c.append.new.self.applied (c.args.log.now.applied ++ c.args.entries.items) c.in-Ok.ensures.applied)
