use Rattle.std.proofs.Common.{rules}
use Rattle.wamp_message_layouts.proofs.refusal.answers_invocation.Goals as goal

pub returns-in-Some : goal.returns-in-Some
returns-in-Some c = search rules
