use Rattle.std.proofs.Common.{rules}
use Rattle.wamp_messages.proofs.writing.write.Goals as goal

pub returns-clause-spelled : goal.returns-clause-spelled
returns-clause-spelled c = search rules

pub returns-clause-read_again : goal.returns-clause-read_again
returns-clause-read_again c = search rules
