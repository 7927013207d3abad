use Rattle.node_actor.proofs.Restarting.{exact_of, starts_of}
use Rattle.node_actor.proofs.Sound.{sound_first}
use Rattle.node_actor.specs.Restarts.{Opens}
use Rattle.node_actor.proofs.Opening.{seated_first, opens_first, resumes_of}
use Rattle.node_actor.proofs.actor.Actor.restart.Goals as goal

pub of-requires-in-Ok-clause-sound : goal.of-requires-in-Ok-clause-sound
of-requires-in-Ok-clause-sound g c =
    rw c.of.ensures (sound_first g.M.Body.Body.same g.M.Machine.content g.M.Machine.loaded g.K.Keeper.holds g.K.Keeper.is_faithful
    g.K.Keeper.is_failed c.args.post c.args.keeper c.begin.new.keeper
    c.in-Ok.begun.node c.in-Ok.begun.outboxes c.in-Ok.begun.seat c.args.machine c.in-Ok.log c.begin.ensures.left.member c.in-Ok.ensures.ok
    c.in-Ok.ensures.log)

pub of-requires-in-Ok-clause-seated : goal.of-requires-in-Ok-clause-seated
of-requires-in-Ok-clause-seated g c =
    rw c.of.ensures (seated_first g.M.Body.Body.same g.K.Keeper.holds g.K.Keeper.is_faithful g.K.Keeper.is_failed c.args.post
    c.args.keeper c.begin.new.keeper
    c.in-Ok.begun.node c.in-Ok.begun.outboxes c.in-Ok.begun.seat c.in-Ok.log c.begin.ensures.left c.in-Ok.ensures.ok)

pub returns-in-Err-clause-exact : goal.returns-in-Err-clause-exact
returns-in-Err-clause-exact g c = λ r held true_to is.
    exact_of g.M.Body.Body.same g.M.Machine.loaded g.K.Keeper.holds g.K.Keeper.finds g.K.Keeper.is_faithful g.K.Keeper.failures c.args.post
    c.args.keeper c.begin.new.keeper
    c.in-Err.fault r c.in-Err.ensures.refuses held true_to is

pub returns-in-Err-clause-shuts : goal.returns-in-Err-clause-shuts
returns-in-Err-clause-shuts g c =
    record {
      starts = starts_of g.M.Body.Body.same g.M.Machine.loaded g.K.Keeper.holds g.K.Keeper.finds g.K.Keeper.is_faithful g.K.Keeper.failures
          c.args.post c.args.keeper
          c.begin.new.keeper c.in-Err.fault c.in-Err.ensures.refuses;
      leaves = c.in-Err.ensures.leaves;
    }

pub returns-in-Ok-clause-opens : goal.returns-in-Ok-clause-opens
returns-in-Ok-clause-opens g c =
    rw (c.of-in-Ok.ensures, c.of.ensures) (opens_first g.M.Body.Body.same g.K.Keeper.holds g.K.Keeper.is_faithful g.K.Keeper.is_failed
    c.args.post c.args.keeper
    c.begin.new.keeper c.in-Ok.begun.node c.in-Ok.begun.outboxes c.in-Ok.begun.seat c.in-Ok.log c.begin.ensures.left
    c.in-Ok.ensures.ok
    g.M.Machine.steps g.M.Machine.content g.M.Machine.loaded c.args.machine c.in-Ok.ensures.log)

pub returns-in-Ok-clause-resumes : goal.returns-in-Ok-clause-resumes
returns-in-Ok-clause-resumes g c = λ view r of held true_to.
    let opens : Opens g.M.Body.Body.same g.M.Machine.steps g.M.Machine.content g.M.Machine.loaded g.K.Keeper.holds
    g.K.Keeper.is_faithful c.args.post
    c.args.machine c.args.keeper c.of-in-Ok.result = rw (c.of-in-Ok.ensures, c.of.ensures)
    (opens_first g.M.Body.Body.same g.K.Keeper.holds
    g.K.Keeper.is_faithful g.K.Keeper.is_failed c.args.post c.args.keeper c.begin.new.keeper c.in-Ok.begun.node c.in-Ok.begun.outboxes
    c.in-Ok.begun.seat
    c.in-Ok.log c.begin.ensures.left c.in-Ok.ensures.ok g.M.Machine.steps
    g.M.Machine.content g.M.Machine.loaded c.args.machine c.in-Ok.ensures.log) in
    resumes_of g.M.Body.Body.same c.args.post view r c.of-in-Ok.result g.M.Machine.steps
    g.M.Machine.content g.M.Machine.loaded
    g.K.Keeper.holds g.K.Keeper.is_faithful c.args.machine c.args.keeper c.begin.ensures.left of opens held true_to
