use Rattle.std.proofs.Common.{rules}
use Rattle.realm_sessions.proofs.sessions.Sessions.has_all.Goals as goal

pub returns-clause-all : goal.returns-clause-all
returns-clause-all c = search rules
