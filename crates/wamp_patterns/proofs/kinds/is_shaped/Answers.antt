use Rattle.wamp_patterns.proofs.Shapes.{shaped_by}
use Rattle.wamp_patterns.proofs.kinds.is_shaped.Goals as goal

pub returns : goal.returns
returns c =
    shaped_by c.args.number c.is_from-starts.result c.is_from-ends.result c.is_within.result c.ones.result.now c.ones-2.result.now c.args.kind.now
    c.ones.ensures c.ones-2.ensures c.is_from-starts.ensures c.is_from-ends.ensures c.is_within.ensures
