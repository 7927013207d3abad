use Rattle.std.proofs.Common.{rules}
use Rattle.realm_machine.proofs.content.Content.end_session.Goals as goal

pub returns : goal.returns
returns c = search rules
