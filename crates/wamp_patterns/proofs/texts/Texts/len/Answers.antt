use Rattle.std.proofs.Common.{subst}
use Rattle.std.specs.Cow.{cow_slice_items}
use Rattle.wamp_patterns.specs.Texts.{AreTextsInOrder, text_cmp}
use Rattle.wamp_patterns.proofs.Keyed.{in_order}
use Rattle.wamp_patterns.proofs.texts.Texts.len.Goals as goal

pub returns-clause-ordered : goal.returns-clause-ordered
returns-clause-ordered g c = subst AreTextsInOrder c.self.view_is (in_order cow_slice_items text_cmp c.self.inside.map.entries c.len.ensures.ordered)
