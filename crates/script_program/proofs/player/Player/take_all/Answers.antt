use Rattle.std.proofs.Common.{take, subst, arith}
use Rattle.std.proofs.lemmas.List.{take_all}
use Rattle.script_program.specs.Player.{IsAt}
use Rattle.script_program.specs.Playing.{script_of, stage_behind}
use Rattle.script_program.proofs.Turns.{line_more}
use Rattle.script_program.proofs.player.Player.take_all.Goals as goal

pub loop-line-preserved : goal.loop-line-preserved
loop-line-preserved c = λ config members s at.
    let before = stage_behind config members (script_of (take c.loop-line.line-index c.args.lines.now)) s in
    subst (IsAt config members c.take.new.self)
    (line_more config members c.args.lines.now c.loop-line.line-index c.line-item.result s c.loop-line-test.true c.line-item.is)
    (c.in_ok-take.ensures config members before (c.loop-line.invariant config members s at))

pub returns : goal.returns
returns c = λ config members s at.
    subst (λ ls. IsAt config members c.loop-line.self (stage_behind config members (script_of ls) s))
    (take_all c.loop-line.line-index c.args.lines.now (omega (arith, c.loop-line-test.false))) (c.loop-line.invariant config members s at)
