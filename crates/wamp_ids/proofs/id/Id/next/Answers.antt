use Rattle.std.proofs.Common.{rules}
use Rattle.wamp_ids.proofs.id.Id.next.Goals as goal

pub returns-else-self-lt-LAST_ID : goal.returns-else-self-lt-LAST_ID
returns-else-self-lt-LAST_ID c = search rules
