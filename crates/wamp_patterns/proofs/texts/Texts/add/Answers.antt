use Rattle.std.proofs.Common.{◌∙◌, ap}
use Rattle.std.specs.Cow.{cow_slice_items}
use Rattle.std.specs.Map.{lookup}
use Rattle.std.specs.BTreeMap.{insert_entry}
use Rattle.wamp_patterns.specs.Texts.{same_text, text_cmp, texts_of}
use Rattle.wamp_patterns.proofs.Keyed.{looked_up, put_in}
use Rattle.wamp_patterns.proofs.texts.Texts.add.Goals as goal

pub returns-in-Ok-insert-clause-old : goal.returns-in-Ok-insert-clause-old
returns-in-Ok-insert-clause-old g c =
    c.in-Ok-insert.ensures.old
    ∙ looked_up cow_slice_items (same_text (cow_slice_items c.in-Ok.copy)) c.self.inside.map.entries
    ∙ ap (λ text. lookup (same_text text) (texts_of c.self.inside.map.entries)) c.in-Ok.ensures
    ∙ ap (λ entries. lookup (same_text c.args.text.now) entries) c.self.view_is ∙ c.requires

pub returns-in-Ok-insert-clause-entries : goal.returns-in-Ok-insert-clause-entries
returns-in-Ok-insert-clause-entries g c =
    ap texts_of c.in-Ok-insert.ensures.entries
    ∙ put_in cow_slice_items text_cmp c.self.inside.map.entries c.in-Ok.copy c.args.value
    ∙ ap (λ text. insert_entry text_cmp (texts_of c.self.inside.map.entries) text c.args.value) c.in-Ok.ensures
    ∙ ap (λ entries. insert_entry text_cmp entries c.args.text.now c.args.value) c.self.view_is
