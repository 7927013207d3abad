-- The messages of registrations (WAMP specification, "Remote Procedure Calls"; the keys and their defaults:
-- docs/PROTOCOL.md, "Messages").
use Rattle.std.specs.Prelude.{ℕ, false, List, Option, Some, None, codes}
use Rattle.serde_json.specs.Data.{Data, string, array, object, Items, no_items, item, no_members, member}
use Rattle.wamp_ids.specs.declared.policy.Match.{Match}
use Rattle.wamp_ids.specs.declared.policy.Match.TheVariants.{Exact, Prefix, Wildcard}
use Rattle.wamp_ids.specs.declared.policy.Invoke.{Invoke}
use Rattle.wamp_ids.specs.declared.policy.Invoke.TheVariants.{Single, First, Last, RoundRobin}
use Rattle.wamp_message_types.specs.Codes as code
use Rattle.wamp_message_layouts.specs.Parts.{whole, only}
use Rattle.wamp_values.specs.Options.{match_in, invoke_in}
use Rattle.wamp_message_layouts.specs.declared.layouts.TwoIds.{TwoIds}
use Rattle.wamp_message_layouts.specs.Layouts.{taken, one_id, one_id_of, two_ids, two_ids_of, id_dictionary_text, Asked, asked_of}
use Rattle.wamp_message_types.specs.declared.register.Register.{Register}
use Rattle.wamp_message_types.specs.declared.register.Registered.{Registered}
use Rattle.wamp_message_types.specs.declared.register.Unregister.{Unregister}
use Rattle.wamp_message_types.specs.declared.register.Unregistered.{Unregistered}
use Rattle.wamp_message_types.specs.declared.message.Message.TheVariants as message
use Rattle.wamp_message_types.specs.declared.read_result.UnfitKind.TheVariants as unfit
use Rattle.wamp_message_types.specs.declared.read_result.Read.{Read}
use Rattle.wamp_message_types.specs.declared.read_result.Read.TheVariants.{Good, Unfit}
use Rattle.wamp_messages.specs.ReadResult.{read_as}
use Rattle.wamp_messages.specs.Subscribe.{match_options}

-- ---- REGISTER: Request, Options, Procedure

abbrev pub invoke_and_match : List ℕ → List ℕ → Data
invoke_and_match invoke matching =
    object (member (codes "invoke") (string invoke) (member (codes "match") (string matching) no_members))

-- the match that is written: every one but the exact one
abbrev pub told_match : Match → Option (List ℕ)
told_match Exact = None
told_match Prefix = Some (codes "prefix")
told_match Wildcard = Some (codes "wildcard")

-- the options of a shared registration
abbrev pub shared_options : List ℕ → Match → Data
shared_options invoke matching = shared_with invoke (told_match matching)
  where
    shared_with : List ℕ → Option (List ℕ) → Data
    shared_with invoke None = only (codes "invoke") (string invoke)
    shared_with invoke (Some name) = invoke_and_match invoke name

-- options hold exactly the keys whose values differ from their defaults
abbrev pub register_options : Invoke → Match → Data
register_options Single matching = match_options matching
register_options First matching = shared_options (codes "first") matching
register_options Last matching = shared_options (codes "last") matching
register_options RoundRobin matching = shared_options (codes "roundrobin") matching

abbrev pub register_value : Register → Data
register_value register =
    array
    (item (whole code.register)
    (item (whole register.request)
    (item (register_options register.invoke register.matching) (item (string register.procedure) no_items))))

abbrev pub unfit_register : ℕ → Read
unfit_register request = Unfit unfit.Register request false

abbrev pub register_with : ℕ → Option Match → Option Invoke → List ℕ → Read
register_with request (Some matching) (Some invoke) procedure =
    Good (message.Register (record { request = request; matching = matching; invoke = invoke; procedure = procedure }))
register_with request (Some matching) None procedure = unfit_register request
register_with request None invoke procedure = unfit_register request

abbrev pub register_read : Asked → Read
register_read asked = register_with asked.request (match_in asked.options) (invoke_in asked.options) asked.uri

abbrev pub register_in : Items → Read
register_in ds = read_as register_read (taken id_dictionary_text asked_of ds)

-- ---- REGISTERED: Request, Registration

abbrev pub registered_value : Registered → Data
registered_value registered = array (item (whole code.registered) (item (whole registered.request) (item (whole registered.registration) no_items)))

abbrev pub registered_read : TwoIds → Read
registered_read ids = Good (message.Registered (record { request = ids.first; registration = ids.second }))

abbrev pub registered_in : Items → Read
registered_in ds = read_as registered_read (taken two_ids two_ids_of ds)

-- ---- UNREGISTER: Request, Registration

abbrev pub unregister_value : Unregister → Data
unregister_value unregister = array (item (whole code.unregister) (item (whole unregister.request) (item (whole unregister.registration) no_items)))

abbrev pub unregister_read : TwoIds → Read
unregister_read ids = Good (message.Unregister (record { request = ids.first; registration = ids.second }))

abbrev pub unregister_in : Items → Read
unregister_in ds = read_as unregister_read (taken two_ids two_ids_of ds)

-- ---- UNREGISTERED: Request

abbrev pub unregistered_value : Unregistered → Data
unregistered_value unregistered = array (item (whole code.unregistered) (item (whole unregistered.request) no_items))

abbrev pub unregistered_read : ℕ → Read
unregistered_read id = Good (message.Unregistered (record { request = id }))

abbrev pub unregistered_in : Items → Read
unregistered_in ds = read_as unregistered_read (taken one_id one_id_of ds)
