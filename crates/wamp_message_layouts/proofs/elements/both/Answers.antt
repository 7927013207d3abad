use Rattle.std.proofs.Common.{◌≡◌, ◌∙◌, true, sym, rules}
use Rattle.serde_json.specs.View.{view}
use Rattle.wamp_message_layouts.specs.Elements.{is_list, is_dictionary}
use Rattle.wamp_message_layouts.proofs.Pairs.{first_unfit, second_unfit, both_given}
use Rattle.wamp_message_layouts.proofs.elements.both.Goals as goal

pub returns-in_default : goal.returns-in_default
returns-in_default c =
    let list : is_list (view c.args.list) ≡ true = search rules in
    let dictionary : is_dictionary (view c.args.dictionary) ≡ true = search rules in
    first_unfit (view c.args.list) (view c.args.dictionary) c.in_default.field-0 list dictionary (sym c.check.ensures ∙ c.in_default.is)

pub returns-in_default-check : goal.returns-in_default-check
returns-in_default-check c =
    let list : is_list (view c.args.list) ≡ true = search rules in
    let dictionary : is_dictionary (view c.args.dictionary) ≡ true = search rules in
    second_unfit (view c.args.list) (view c.args.dictionary) c.in-Ok.list c.in_default-check.field-0 list dictionary
    (sym c.check.ensures ∙ c.in-Ok.is) (sym c.check-2.ensures ∙ c.in_default-check.is)

pub returns : goal.returns
returns c =
    let list : is_list (view c.args.list) ≡ true = search rules in
    let dictionary : is_dictionary (view c.args.dictionary) ≡ true = search rules in
    c.both_fit.ensures
    ∙ both_given (view c.args.list) (view c.args.dictionary) c.in-Ok.list c.in-Ok-check.dictionary list dictionary
    (sym c.check.ensures ∙ c.in-Ok.is) (sym c.check-2.ensures ∙ c.in-Ok-check.is)
