use Rattle.std.proofs.Common.{rules}
use Rattle.wamp_values.proofs.found.text_at.Goals as goal

pub returns-in-Some-as_str : goal.returns-in-Some-as_str
returns-in-Some-as_str c = search rules
