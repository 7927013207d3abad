use Rattle.std.proofs.Common.{◌≡◌, suc, ◌-◌, sym, ap, ◌∙◌, ◌∷◌, arith}
use Rattle.command_codec.proofs.Numbers.{goes_wrong, goes_on}
use Rattle.command_codec.proofs.number.+take_from.Goals as goal

pub returns-then-is_beyond : goal.returns-then-is_beyond
returns-then-is_beyond t c =
    let one_less : c.args.left ≡ suc (c.args.left - 1) = omega arith in
    let rest = c.in-Some.rest.now in
    goes_wrong c.args.so_far c.args.left (c.args.left - 1) c.args.low c.args.high c.from.result c.args.octets.now rest one_less
    (c.in-Some.ensures.cases.0 ∙ ap (λ o. o ∷ rest) (sym c.from.ensures)) (sym c.if-is_beyond.ensures)

pub returns : goal.returns
returns t c =
    let one_less : c.args.left ≡ suc (c.args.left - 1) = omega arith in
    let rest = c.in-Some.rest.now in
    rw
    (goes_on c.args.so_far c.args.left (c.args.left - 1) c.args.low c.args.high c.from.result c.args.octets.now rest one_less
    (c.in-Some.ensures.cases.0 ∙ ap (λ o. o ∷ rest) (sym c.from.ensures)) (sym c.if-is_beyond.ensures))
    c.take_from.ensures
