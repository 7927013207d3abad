use Rattle.std.proofs.Common.{rules}
use Rattle.wamp_message_layouts.proofs.parts.put_text.Goals as goal

pub returns-in-None : goal.returns-in-None
returns-in-None c = search rules
