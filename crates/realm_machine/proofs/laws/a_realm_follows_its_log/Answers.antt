use Rattle.realm_machine.proofs.Along.{follows, says_so}
use Rattle.realm_machine.proofs.laws.a_realm_follows_its_log.Goals as goal

pub returns : goal.returns
returns c = record { content = follows; says = says_so }
