use Rattle.std.proofs.lemmas.List.{get_or-replicate}
use Rattle.replica_machine.specs.declared.roll.Standing.TheVariants.{Unknown}
use Rattle.replica_machine.proofs.roll.Roll.new.Goals as goal

pub returns-clause-unknown : goal.returns-clause-unknown
returns-clause-unknown c = λ n within. get_or-replicate 256 n Unknown Unknown within
