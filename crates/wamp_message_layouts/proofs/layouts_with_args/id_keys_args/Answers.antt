use Rattle.std.proofs.Common.{◌∙◌}
use Rattle.serde_json.specs.View.{view}
use Rattle.wamp_message_layouts.specs.Elements.{elements}
use Rattle.wamp_message_layouts.proofs.Lengths.{id_keys_args_length, id_keys_args_taken}
use Rattle.wamp_message_layouts.proofs.layouts_with_args.id_keys_args.Goals as goal

pub returns-in_default : goal.returns-in_default
returns-in_default c = id_keys_args_length c.args.keys.now c.args.may_be_inexact (elements c.args.rest) c.in_default.ensures

pub returns : goal.returns
returns c =
    c.answer_given-answered.ensures
    ∙ id_keys_args_taken c.args.keys.now c.args.may_be_inexact (elements c.args.rest) (elements c.two.new.rest) (view c.in-Some.request)
    (view c.in-Some.details) c.arguments.result c.in-Some.ensures c.arguments.ensures
