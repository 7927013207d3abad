use Rattle.std.proofs.Common.{rules}
use Rattle.wamp_messages.proofs.flags.Flags.with.Goals as goal

pub returns : goal.returns
returns c = search rules
