use Rattle.std.proofs.Common.{rules}
use Rattle.wamp_ids.proofs.uri.first_part_is_wamp.Goals as goal

pub returns-in-Some : goal.returns-in-Some
returns-in-Some c = search rules
