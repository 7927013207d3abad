use Rattle.core_tests.proofs.Machines.{alike}
use Rattle.core_tests.proofs.random_worlds.first_world.Goals as goal

pub new-requires-clause-alike : goal.new-requires-clause-alike
new-requires-clause-alike g c = alike _ c.new_machines-machines.result.items c.new_machines-machines.ensures.new
