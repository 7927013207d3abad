use Rattle.std.proofs.Common.{subst}
use Rattle.script_program.specs.Player.{DeliversFirst}
use Rattle.script_program.proofs.Turns.{flush_begins, flush_goes, flush_ends, flush_stops}
use Rattle.script_program.proofs.player.Player.flush.Goals as goal

pub loop-turn-init : goal.loop-turn-init
loop-turn-init c = λ config members s at. flush_begins config members c.args.among c.args.self.now s at

pub returns-then-not-branch : goal.returns-then-not-branch
returns-then-not-branch c = λ config members s at.
    let left = c.loop-turn.invariant config members s at in
    flush_ends config members c.args.among left.0 c.loop-turn.self c.deliver_first.new.self _ left.2
    (subst (λ b. DeliversFirst config members c.args.among b left.2.stage c.deliver_first.new.self) c.if-not-branch.true
    (c.in_ok-deliver_first.ensures config members left.2.stage left.2.is_at))

pub loop-turn-preserved : goal.loop-turn-preserved
loop-turn-preserved c = λ config members s at.
    let left = c.loop-turn.invariant config members s at in
    flush_goes config members c.args.among left.0 c.loop-turn._turn c.loop-turn.self c.deliver_first.new.self _ c.loop-turn-test.true left.1 left.2
    (subst (λ b. DeliversFirst config members c.args.among b left.2.stage c.deliver_first.new.self) c.if-not-branch.false
    (c.in_ok-deliver_first.ensures config members left.2.stage left.2.is_at))

pub returns : goal.returns
returns c = λ config members s at.
    let left = c.loop-turn.invariant config members s at in
    flush_stops config members c.args.among left.0 c.loop-turn._turn c.loop-turn.self _ c.loop-turn-test.false left.1 left.2
