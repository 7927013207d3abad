use Rattle.std.proofs.Common.{◌∙◌, ◌/◌, ◌^◌, ◌*◌}
use Rattle.std.proofs.lemmas.Bool.{lt-ltb}
use Rattle.command_codec.proofs.Numbers.{below_is, above_is}
use Rattle.command_codec.proofs.number.is_beyond.Goals as goal

pub returns-then-come-low : goal.returns-then-come-low
returns-then-come-low c =
    lt-ltb c.args.come (c.args.low / 2 ^ (8 * c.args.left)) c.if-come-low.true
    ∙ below_is c.args.come c.args.left c.args.low c.args.high c.if-come-low.true

pub returns-else-come-low : goal.returns-else-come-low
returns-else-come-low c = above_is c.args.come c.args.left c.args.low c.args.high c.if-come-low.false
