use Rattle.std.proofs.Common.{rules}
use Rattle.wamp_ids.proofs.text.Text.same.Goals as goal

pub returns : goal.returns
returns c = search rules
