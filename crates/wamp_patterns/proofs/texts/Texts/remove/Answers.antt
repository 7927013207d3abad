use Rattle.std.proofs.Common.{◌∙◌, ap, subst}
use Rattle.std.specs.Cow.{cow_slice_items}
use Rattle.wamp_patterns.specs.Texts.{AreTextsInOrder, same_text, text_cmp, texts_of}
use Rattle.wamp_patterns.proofs.Keyed.{in_order, looked_up, removed}
use Rattle.wamp_patterns.proofs.texts.Texts.remove.Goals as goal

pub returns-clause-value : goal.returns-clause-value
returns-clause-value g c = rw (← c.self.view_is)
    (c.remove.ensures.value ∙ looked_up cow_slice_items (same_text c.args.text.now) c.self.inside.map.entries)

pub returns-clause-entries : goal.returns-clause-entries
returns-clause-entries g c = rw (← c.self.view_is)
    (ap texts_of c.remove.ensures.entries ∙ removed cow_slice_items (same_text c.args.text.now) c.self.inside.map.entries)

pub returns-clause-was_ordered : goal.returns-clause-was_ordered
returns-clause-was_ordered g c = subst AreTextsInOrder c.self.view_is (in_order cow_slice_items text_cmp c.self.inside.map.entries c.len-length.ensures.ordered)
