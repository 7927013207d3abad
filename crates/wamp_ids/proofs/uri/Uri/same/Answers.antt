use Rattle.std.proofs.Common.{rules}
use Rattle.wamp_ids.proofs.uri.Uri.same.Goals as goal

pub returns : goal.returns
returns c = search rules
