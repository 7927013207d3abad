-- Arguments that are written are read again.
use Rattle.std.proofs.Common.{◌≡◌, refl}
use Rattle.wamp_values.specs.declared.args.Args.{Args}
use Rattle.wamp_values.specs.declared.args.Args.TheVariants.{Nothing, List as Listed, Both}
use Rattle.wamp_values.specs.Args.{IsArgs, args_items}
use Rattle.wamp_values.proofs.Plain.{payload_is_fit}
use Rattle.wamp_message_layouts.specs.declared.elements.Given.TheVariants.{Fit}
use Rattle.wamp_message_layouts.specs.Elements.{args_given}

pub args_again : (args : Args) → IsArgs args → args_given (args_items args) ≡ Fit args
args_again Nothing h = refl
args_again (Listed list) h = rw (h.1, payload_is_fit list h.0) refl
args_again (Both list dictionary) h = rw (h.0.1, h.1.1, payload_is_fit list h.0.0, payload_is_fit dictionary h.1.0) refl
