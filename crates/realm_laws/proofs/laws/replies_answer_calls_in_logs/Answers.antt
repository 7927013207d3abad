use Rattle.realm_laws.proofs.LogLaws.{replies_answer_in_logs}
use Rattle.realm_laws.proofs.laws.replies_answer_calls_in_logs.Goals as goal

pub returns : goal.returns
returns c = replies_answer_in_logs
