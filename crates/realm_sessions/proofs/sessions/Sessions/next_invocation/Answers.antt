use Rattle.std.proofs.Common.{rules}
use Rattle.realm_sessions.proofs.sessions.Sessions.next_invocation.Goals as goal

pub returns-in_err-invocation-clause-answer : goal.returns-in_err-invocation-clause-answer
returns-in_err-invocation-clause-answer c = search rules

pub returns-in_err-invocation-clause-sessions : goal.returns-in_err-invocation-clause-sessions
returns-in_err-invocation-clause-sessions c = search rules

pub returns-clause-answer : goal.returns-clause-answer
returns-clause-answer c = search rules

pub returns-clause-sessions : goal.returns-clause-sessions
returns-clause-sessions c = search rules
