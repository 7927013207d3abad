use Rattle.std.proofs.Common.{◌≡◌, suc, sym, subst, arith}
use Rattle.std.specs.Prelude.{OnOk}
use Rattle.std.proofs.lemmas.Result.{on_ok_weaker}
use Rattle.script_program.specs.declared.lines.line.Line.TheVariants as line
use Rattle.script_program.specs.Player.{IsAt}
use Rattle.script_program.specs.Playing.{in_script, stage_behind}
use Rattle.script_program.proofs.Turns.{at_number}
use Rattle.script_program.proofs.player.Player.deliver_no.Goals as goal

pub returns-in-Some : goal.returns-in-Some
returns-in-Some c = λ config members s at.
    let number_is : suc c.in-Some.place ≡ c.args.number = omega (arith, c.in-Some.ensures.0, c.in-Some.ensures.1) in
    subst (λ n. OnOk c.deliver_at.result
    (IsAt config members c.deliver_at.new.self (stage_behind config members (in_script (line.Deliver n)) s))) number_is
    (on_ok_weaker c.deliver_at.result (λ now. subst (IsAt config members c.deliver_at.new.self) (sym (at_number config members c.in-Some.place s)) now)
    (c.deliver_at.ensures config members s at))
