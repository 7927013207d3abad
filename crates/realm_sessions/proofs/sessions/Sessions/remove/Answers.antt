use Rattle.std.proofs.Common.{rules}
use Rattle.realm_sessions.proofs.sessions.Sessions.remove.Goals as goal

pub returns : goal.returns
returns c = search rules
