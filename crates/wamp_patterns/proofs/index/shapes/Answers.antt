use Rattle.std.proofs.Common.{◌∙◌}
use Rattle.wamp_patterns.proofs.Shapes.{are_shaped, goes_forward}
use Rattle.wamp_patterns.proofs.index.shapes.Goals as goal

pub between-requires : goal.between-requires
between-requires c = goes_forward c.args.number c.ones.result.now c.ones-2.result.now c.ones.ensures c.ones-2.ensures

pub returns-clause-shapes : goal.returns-clause-shapes
returns-clause-shapes c =
    c.between.ensures.rest ∙ are_shaped c.args.number c.ones.result.now c.ones-2.result.now c.ones.ensures c.ones-2.ensures c.args.kinds.now
