use Rattle.std.proofs.Common.{refl, sym, subst}
use Rattle.paxos_planning.specs.Node.{NodeState}
use Rattle.node_actor.specs.Snapshots.{IsFirstLog}
use Rattle.node_actor.specs.Beginning.{as_it_was}
use Rattle.node_actor.proofs.Restarting.{refused_late, leaves_late, begins_of}
use Rattle.node_actor.proofs.beginning.begin.Goals as goal

pub returns-in-Err-clause-leaves : goal.returns-in-Err-clause-leaves
returns-in-Err-clause-leaves g c = as_it_was c.in-Err.fault refl

pub returns-in-Err-sit-clause-refuses : goal.returns-in-Err-sit-clause-refuses
returns-in-Err-sit-clause-refuses g c =
    refused_late g.M.Body.Body.same g.M.Machine.loaded g.K.Keeper.holds g.K.Keeper.finds g.K.Keeper.is_faithful g.K.Keeper.is_failed
    g.K.Keeper.failures c.args.post c.args.keeper.now c.prepare.new.keeper c.in-Ok.ready c.in-Ok.ensures.ok

pub returns-in-Err-sit-clause-leaves : goal.returns-in-Err-sit-clause-leaves
returns-in-Err-sit-clause-leaves g c =
    leaves_late g.M.Body.Body.same g.M.Machine.loaded g.K.Keeper.holds g.K.Keeper.finds g.K.Keeper.is_faithful g.K.Keeper.is_failed
    g.K.Keeper.failures c.args.post c.args.keeper.now c.prepare.new.keeper c.in-Ok.ready c.in-Ok.ensures.ok c.in-Err-sit.post
    c.in-Err-sit.ensures.left

pub returns-in-Ok-sit-clause-ok : goal.returns-in-Ok-sit-clause-ok
returns-in-Ok-sit-clause-ok g c =
    begins_of g.M.Body.Body.same g.M.Machine.loaded g.K.Keeper.holds g.K.Keeper.finds g.K.Keeper.is_faithful g.K.Keeper.is_failed
    g.K.Keeper.failures c.args.post c.args.keeper.now c.prepare.new.keeper c.in-Ok.ready c.in-Ok.ensures.ok c.in-Ok-sit.begun.node
    c.in-Ok-sit.begun.outboxes c.in-Ok-sit.begun.seat c.in-Ok-sit.ensures.node c.in-Ok-sit.ensures.outboxes c.in-Ok-sit.ensures.seat

pub returns-in-Ok-sit-clause-log : goal.returns-in-Ok-sit-clause-log
returns-in-Ok-sit-clause-log g c =
    subst (λ (x : NodeState g.row.M-Body.Denot). IsFirstLog g.M.Machine.content g.M.Machine.loaded c.args.machine x.rows.snapshot c.in-Ok.log)
    (sym c.in-Ok-sit.ensures.node.state) c.in-Ok.ensures.log
