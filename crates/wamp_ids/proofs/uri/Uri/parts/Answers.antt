use Rattle.std.proofs.Common.{rules}
use Rattle.wamp_ids.proofs.uri.Uri.parts.Goals as goal

pub returns-clause-dots : goal.returns-clause-dots
returns-clause-dots c = search rules
