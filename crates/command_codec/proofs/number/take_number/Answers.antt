use Rattle.std.proofs.Common.{◌-◌, arith}
use Rattle.command_codec.specs.Number.{number_reading}
use Rattle.command_codec.proofs.Numbers.{number_bounds}
use Rattle.command_codec.proofs.number.take_number.Goals as goal

pub returns-clause-within : goal.returns-clause-within
unfolding number_reading
returns-clause-within c = number_bounds c.args.form (c.args.form.width - 1) c.in_ok-number.number c.args.octets.now _
    (let least = c.requires.least in omega arith) c.in_ok-number.ensures
