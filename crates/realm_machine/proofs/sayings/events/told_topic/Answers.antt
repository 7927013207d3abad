use Rattle.std.proofs.Common.{rules}
use Rattle.realm_machine.proofs.sayings.events.told_topic.Goals as goal

pub returns-in-Exact : goal.returns-in-Exact
returns-in-Exact c = search rules
