use Rattle.std.proofs.Common.{◌∙◌, ap, subst, sym, Some, is_some}
use Rattle.std.specs.Cow.{cow_slice_items}
use Rattle.std.specs.BTreeMap.{insert_entry}
use Rattle.std.proofs.lemmas.Cmp.{nat_list_cmp_total}
use Rattle.wamp_patterns.specs.Texts.{AreTextsInOrder, same_text, text_cmp, texts_of}
use Rattle.wamp_patterns.proofs.Keyed.{in_order, looked_up, written, written_put}
use Rattle.wamp_patterns.proofs.texts.Texts.replace.Goals as goal

pub returns-in_default-clause-missing : goal.returns-in_default-clause-missing
returns-in_default-clause-missing g c = rw (← c.self.view_is)
    (sym (looked_up cow_slice_items (same_text c.args.text.now) c.self.inside.map.entries) ∙ sym c.in_default.ensures.value)

pub returns-in_default-clause-was_ordered : goal.returns-in_default-clause-was_ordered
returns-in_default-clause-was_ordered g c =
    subst AreTextsInOrder c.self.view_is (in_order cow_slice_items text_cmp c.self.inside.map.entries c.get_mut.ensures.ordered)

pub returns-clause-old : goal.returns-clause-old
returns-clause-old g c = rw (← c.self.view_is)
    (sym (looked_up cow_slice_items (same_text c.args.text.now) c.self.inside.map.entries)
    ∙ sym c.in-Some.ensures.value ∙ ap Some (sym c.replace.ensures.value))

pub returns-clause-entries : goal.returns-clause-entries
returns-clause-entries g c =
    let h = c.get_mut.follows.holds c.replace.new.dest in
    let entries = c.self.inside.map.entries in
    ap texts_of h.0
    ∙ written cow_slice_items (same_text c.args.text.now) entries c.replace.new.dest
    ∙ written_put nat_list_cmp_total c.args.text.now c.replace.new.dest (texts_of entries)
    (in_order cow_slice_items text_cmp entries c.get_mut.ensures.ordered)
    (ap is_some (sym (c.in-Some.ensures.value ∙ looked_up cow_slice_items (same_text c.args.text.now) entries)))
    ∙ ap (λ value. insert_entry text_cmp (texts_of entries) c.args.text.now value) c.replace.ensures.after
    ∙ ap (λ texts. insert_entry text_cmp texts c.args.text.now c.args.value) c.self.view_is

pub returns-clause-was_ordered : goal.returns-clause-was_ordered
returns-clause-was_ordered g c =
    subst AreTextsInOrder c.self.view_is (in_order cow_slice_items text_cmp c.self.inside.map.entries c.get_mut.ensures.ordered)
