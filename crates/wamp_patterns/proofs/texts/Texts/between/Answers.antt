use Rattle.std.proofs.Common.{ap, subst, ◌∙◌}
use Rattle.std.specs.Cow.{cow_slice_items}
use Rattle.wamp_patterns.specs.Texts.{AreTextsInOrder, is_between, text_cmp, texts_of}
use Rattle.wamp_patterns.proofs.Keyed.{filtered, in_order}
use Rattle.wamp_patterns.proofs.texts.Texts.between.Goals as goal

pub returns-clause-rest : goal.returns-clause-rest
returns-clause-rest g c =
    rw (← c.self.view_is)
    (ap texts_of (c.range.ensures.between tt)
    ∙ filtered cow_slice_items (is_between c.args.first.now c.args.last.now) c.self.inside.map.entries)

pub returns-clause-ordered : goal.returns-clause-ordered
returns-clause-ordered g c = subst AreTextsInOrder c.self.view_is (in_order cow_slice_items text_cmp c.self.inside.map.entries c.range.ensures.ordered)
