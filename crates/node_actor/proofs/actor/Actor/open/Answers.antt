use Rattle.std.proofs.Common.{ap}
use Rattle.std.proofs.lemmas.Result.{IfErr-weaker}
use Rattle.node_actor.proofs.Opening.{never_others}
use Rattle.node_actor.specs.Posts.{Posted}
use Rattle.node_actor.proofs.actor.Actor.open.Goals as goal

pub returns-clause-sound : goal.returns-clause-sound
returns-clause-sound g c = λ r held none.
    IfErr-weaker c.restart.result _ _
    (λ left others faithful is. never_others g.M.Body.Body.same g.M.Machine.loaded c.of-post.result r
    (ap (λ (p : Posted g.row.M-Body.Denot). p.rows) c.of-post.ensures) none (others faithful is))
    (c.restart.ensures.exact r held)
