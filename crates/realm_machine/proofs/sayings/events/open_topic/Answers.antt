use Rattle.std.proofs.Common.{rules}
use Rattle.realm_machine.proofs.sayings.events.open_topic.Goals as goal

pub returns-then-is_reserved-clause-open : goal.returns-then-is_reserved-clause-open
returns-then-is_reserved-clause-open c = search rules
