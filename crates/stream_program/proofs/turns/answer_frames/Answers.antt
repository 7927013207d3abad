use Rattle.std.proofs.Common.{Ok, Err}
use Rattle.stream_program.specs.Service.{owed}
use Rattle.stream_program.proofs.Running.{writes_then, over_then}
use Rattle.stream_program.proofs.turns.answer_frames.Goals as goal

pub frames-preserved : goal.frames-preserved
frames-preserved g c = writes_then _ (owed c.frames.service) _ _ _ _ c.frames.invariant (rw c.in-Ok-Onward.field-0-is at c.in-Ok-Onward.ensures.steps)

pub returns-in-Ok-Waiting : goal.returns-in-Ok-Waiting
returns-in-Ok-Waiting g c =
    let last = rw c.in-Ok-Waiting.field-0-is at c.in-Ok-Waiting.ensures.steps in
    (writes_then _ (owed c.frames.service) _ _ _ _ c.frames.invariant last.0, last.1)

pub returns-in-Ok-Closed : goal.returns-in-Ok-Closed
returns-in-Ok-Closed g c =
    over_then _ (owed c.frames.service) (Ok tt) _ _ _ c.frames.invariant (rw c.in-Ok-Closed.field-0-is at c.in-Ok-Closed.ensures.steps)

pub returns-in-Err : goal.returns-in-Err
returns-in-Err g c = over_then _ (owed c.frames.service) (Err c.in-Err.fault) _ _ _ c.frames.invariant c.in-Err.ensures.steps
