-- The messages that open and end a session (WAMP specification, "Session Establishment" and "Session Closing"; the keys of this profile:
-- docs/PROTOCOL.md, "Messages").
use Rattle.std.specs.Prelude.{Bool, true, false, codes}
use Rattle.serde_json.specs.Data.{Data, string, boolean, array, object, Items, no_items, item, no_members, member}
use Rattle.wamp_values.specs.Args.{args_items}
use Rattle.wamp_message_types.specs.Codes as code
use Rattle.wamp_message_layouts.specs.Parts.{whole, only, nothing}
use Rattle.wamp_values.specs.Options.{is_canceling}
use Rattle.wamp_message_layouts.specs.declared.layouts.Reason.{Reason}
use Rattle.wamp_message_layouts.specs.Layouts.{taken, text_dictionary, Named, named_of, id_dictionary, Numbered, numbered_of}
use Rattle.wamp_message_layouts.specs.Layouts.{dictionary_text, dictionary_text_args, reason_of}
use Rattle.wamp_message_types.specs.declared.session.Hello.{Hello}
use Rattle.wamp_message_types.specs.declared.session.Welcome.{Welcome}
use Rattle.wamp_message_types.specs.declared.session.Abort.{Abort}
use Rattle.wamp_message_types.specs.declared.session.Goodbye.{Goodbye}
use Rattle.wamp_message_types.specs.declared.message.Message.TheVariants as message
use Rattle.wamp_message_types.specs.declared.read_result.Read.{Read}
use Rattle.wamp_message_types.specs.declared.read_result.Read.TheVariants.{Good}
use Rattle.wamp_messages.specs.ReadResult.{read_as}

-- ---- HELLO: Realm, Details

-- what a client announces as a callee
abbrev pub callee : Data
callee = only (codes "features") (only (codes "call_canceling") (boolean true))

abbrev pub hello_details : Bool → Data
hello_details false = nothing
hello_details true = only (codes "roles") (only (codes "callee") callee)

abbrev pub hello_value : Hello → Data
hello_value hello = array (item (whole code.hello) (item (string hello.realm) (item (hello_details hello.canceling) no_items)))

abbrev pub hello_read : Named → Read
hello_read named = Good (message.Hello (record { realm = named.name; canceling = is_canceling named.details }))

abbrev pub hello_in : Items → Read
hello_in ds = read_as hello_read (taken text_dictionary named_of ds)

-- ---- WELCOME: Session, Details

-- what the router announces
abbrev pub broker : Data
broker =
    only (codes "features") (object
    (member (codes "pattern_based_subscription") (boolean true)
    (member (codes "publisher_exclusion") (boolean true) no_members)))

abbrev pub dealer : Data
dealer =
    only (codes "features") (object
    (member (codes "call_canceling") (boolean true)
    (member (codes "caller_identification") (boolean true)
    (member (codes "pattern_based_registration") (boolean true)
    (member (codes "progressive_call_results") (boolean true)
    (member (codes "shared_registration") (boolean true) no_members))))))

abbrev pub welcome_details : Data
welcome_details = only (codes "roles") (object (member (codes "broker") broker (member (codes "dealer") dealer no_members)))

abbrev pub welcome_value : Welcome → Data
welcome_value welcome = array (item (whole code.welcome) (item (whole welcome.session) (item welcome_details no_items)))

abbrev pub welcome_read : Numbered → Read
welcome_read numbered = Good (message.Welcome (record { session = numbered.id }))

abbrev pub welcome_in : Items → Read
welcome_in ds = read_as welcome_read (taken id_dictionary numbered_of ds)

-- ---- ABORT: Details, Reason, and Args by this profile

abbrev pub abort_value : Abort → Data
abort_value abort = array (item (whole code.abort) (item nothing (item (string abort.reason) (args_items abort.args))))

abbrev pub abort_read : Reason → Read
abort_read reason = Good (message.Abort (record { reason = reason.reason; args = reason.args }))

abbrev pub abort_in : Items → Read
abort_in ds = read_as abort_read (taken dictionary_text_args reason_of ds)

-- ---- GOODBYE: Details, Reason

abbrev pub goodbye_value : Goodbye → Data
goodbye_value goodbye = array (item (whole code.goodbye) (item nothing (item (string goodbye.reason) no_items)))

abbrev pub goodbye_read : Reason → Read
goodbye_read reason = Good (message.Goodbye (record { reason = reason.reason }))

abbrev pub goodbye_in : Items → Read
goodbye_in ds = read_as goodbye_read (taken dictionary_text reason_of ds)
