use Rattle.std.proofs.lemmas.Result.{IfOk-weaker}
use Rattle.node_actor.specs.Preparing.{again}
use Rattle.node_actor.proofs.preparing.find.Goals as goal

pub returns-in-Some-clause-ok : goal.returns-in-Some-clause-ok
returns-in-Some-clause-ok g c =
    IfOk-weaker c.find_again.result _ _ (λ it found. again found) c.find_again.ensures.ok
