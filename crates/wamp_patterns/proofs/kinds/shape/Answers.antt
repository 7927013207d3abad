use Rattle.std.proofs.Common.{map, ap, ◌++◌, ◌∙◌}
use Rattle.wamp_ids.specs.Uri.{parts}
use Rattle.wamp_patterns.specs.Kinds.{components, gap}
use Rattle.wamp_patterns.proofs.Filling.{all_told}
use Rattle.wamp_patterns.proofs.Shapes.{together}
use Rattle.wamp_patterns.proofs.kinds.shape.Goals as goal

pub returns : goal.returns
returns c =
    together (components c.args.text.now) c.new-shape.result.items c.ones.result.now c.try_extend_from_slice.new.self.items c.push.new.self.items
    c.add_gaps.new.gaps.items (map gap (parts c.args.text.now)) c.new-shape.ensures (rw (← c.components.ensures.number) c.ones.ensures)
    c.in-Ok.ensures.ok c.push.ensures.items (c.add_gaps.ensures ∙ ap (λ gaps. c.push.new.self.items ++ gaps) (all_told c.args.text.now))
