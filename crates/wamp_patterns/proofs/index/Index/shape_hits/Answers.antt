use Rattle.std.proofs.Common.{[], ap, filter, ◌∙◌}
use Rattle.std.specs.Map.{keys_of}
use Rattle.wamp_ids.specs.declared.policy.Match.TheVariants.{Wildcard}
use Rattle.wamp_patterns.specs.Kinds.{all_found, is_shaped}
use Rattle.wamp_patterns.specs.Texts.{shown, texts_of}
use Rattle.wamp_patterns.proofs.Shapes.{all_fitting}
use Rattle.wamp_patterns.proofs.index.Index.shape_hits.Goals as goal

pub loop-kind-init : goal.loop-kind-init
loop-kind-init g c =
    ap (λ found. all_found Wildcard c.args.self.now.texts c.args.uri.now (shown found) (keys_of (texts_of c.into_iter-kind-iterator.result))) c.new-hits.ensures.empty
    ∙ ap (λ kinds. all_found Wildcard c.args.self.now.texts c.args.uri.now [] (keys_of kinds))
    (ap texts_of c.into_iter-kind-iterator.ensures.into_iter_gives ∙ c.shapes-kind-items.ensures.shapes
    ∙ ap (λ n. filter (λ entry. is_shaped n entry.0) c.args.self.now.kinds) c.components.ensures.number)
    ∙ all_fitting c.args.self.now.texts c.args.uri.now [] c.args.self.now.kinds
