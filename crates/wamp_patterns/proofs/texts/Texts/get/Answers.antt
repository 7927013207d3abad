use Rattle.std.proofs.Common.{◌∙◌}
use Rattle.std.specs.Cow.{cow_slice_items}
use Rattle.wamp_patterns.specs.Texts.{same_text}
use Rattle.wamp_patterns.proofs.Keyed.{looked_up}
use Rattle.wamp_patterns.proofs.texts.Texts.get.Goals as goal

pub returns : goal.returns
returns g c = rw (← c.self.view_is)
    (c.get.ensures.value ∙ looked_up cow_slice_items (same_text c.args.text.now) c.self.inside.map.entries)
