use Rattle.std.proofs.Common.{rules}
use Rattle.realm_sessions.proofs.sessions.Sessions.connect.Goals as goal

pub push-requires : goal.push-requires
push-requires c = search rules

pub returns-clause-ok : goal.returns-clause-ok
returns-clause-ok c = search rules
