use Rattle.realm_laws.proofs.Steps.{replies_answer}
use Rattle.realm_laws.proofs.laws.replies_answer_calls.Goals as goal

pub returns : goal.returns
returns c = replies_answer
