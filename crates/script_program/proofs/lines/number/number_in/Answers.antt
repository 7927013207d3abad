use Rattle.std.proofs.Common.{◌≡◌, true, sym}
use Rattle.std.proofs.lemmas.Bool.{le-leb}
use Rattle.script_program.specs.Number.{begins_with_digit}
use Rattle.script_program.proofs.Numbers.{number_read, nothing_read}
use Rattle.script_program.proofs.lines.number.number_in.Goals as goal

pub returns-in_default : goal.returns-in_default
returns-in_default c =
    let begins : begins_with_digit c.args.word.now ≡ true = rw (← c.as_bytes.ensures.value) (sym c.if-not-begins_with_digit.ensures) in
    nothing_read c.args.most c.args.word.now c.ranges.most.fits begins c.in_default.ensures.value.0

pub returns-then-number-most : goal.returns-then-number-most
returns-then-number-most c =
    let begins : begins_with_digit c.args.word.now ≡ true = rw (← c.as_bytes.ensures.value) (sym c.if-not-begins_with_digit.ensures) in
    number_read c.args.most c.args.word.now c.in-Ok.number true begins c.in-Ok.ensures.value.0
    (le-leb _ _ c.if-number-most.true)
