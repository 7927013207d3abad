use Rattle.command_codec.proofs.number.+take_from.Given as goal

abbrev pub decreases-take_from : goal.decreases-take_from
decreases-take_from l = l.left
