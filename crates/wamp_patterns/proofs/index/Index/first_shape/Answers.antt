use Rattle.std.proofs.Common.{ap, filter, ◌∙◌}
use Rattle.std.specs.Map.{keys_of}
use Rattle.wamp_ids.specs.declared.policy.Match.TheVariants.{Wildcard}
use Rattle.wamp_patterns.specs.Kinds.{first_found, is_shaped}
use Rattle.wamp_patterns.specs.Texts.{texts_of}
use Rattle.wamp_patterns.proofs.Shapes.{first_fitting}
use Rattle.wamp_patterns.proofs.index.Index.first_shape.Goals as goal

pub loop-kind-init : goal.loop-kind-init
loop-kind-init g c =
    ap (λ kinds. first_found Wildcard c.args.self.now.texts c.args.uri.now (keys_of kinds))
    (ap texts_of c.into_iter-kind-iterator.ensures.into_iter_gives ∙ c.shapes-kind-items.ensures.shapes
    ∙ ap (λ n. filter (λ entry. is_shaped n entry.0) c.args.self.now.kinds) c.components-number.ensures.number)
    ∙ first_fitting c.args.self.now.texts c.args.uri.now c.args.self.now.kinds
