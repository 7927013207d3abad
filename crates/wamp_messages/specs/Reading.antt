-- What is read of the octets of a message (WAMP specification, "Message Definitions"; faults and unfit requests are this
-- profile's: docs/PROTOCOL.md, "Reading").
use Rattle.std.specs.Prelude.{ℕ, ◌==◌, List, Option, Some, None, if◌then◌else◌}
use Rattle.std.specs.Str.{is_utf8}
use Rattle.serde_json.specs.Data.{unsigned, Data, number, array, Items, item}
use Rattle.serde_json.specs.Read.{read}
use Rattle.wamp_message_types.specs.Codes as code
use Rattle.wamp_message_types.specs.declared.fault.MessageFault.TheVariants.{NotJson, NotArray, Kind}
use Rattle.wamp_message_types.specs.declared.read_result.Read.{Read}
use Rattle.wamp_message_types.specs.declared.read_result.Read.TheVariants.{Bad}
use Rattle.wamp_messages.specs.Session.{hello_in, welcome_in, abort_in, goodbye_in}
use Rattle.wamp_messages.specs.Error.{error_in}
use Rattle.wamp_messages.specs.Publish.{publish_in, published_in, event_in}
use Rattle.wamp_messages.specs.Subscribe.{subscribe_in, subscribed_in, unsubscribe_in, unsubscribed_in}
use Rattle.wamp_messages.specs.Register.{register_in, registered_in, unregister_in, unregistered_in}
use Rattle.wamp_messages.specs.Call.{call_in, cancel_in, call_result_in, invocation_in, interrupt_in, yield_in}

-- by the code, what is read of the elements after it
unfoldable pub by_code : ℕ → Items → Read
by_code n ds =
    if n == code.hello then hello_in ds
    else (if n == code.welcome then welcome_in ds
    else (if n == code.abort then abort_in ds
    else (if n == code.goodbye then goodbye_in ds
    else (if n == code.error then error_in ds
    else (if n == code.publish then publish_in ds
    else (if n == code.published then published_in ds
    else (if n == code.subscribe then subscribe_in ds
    else (if n == code.subscribed then subscribed_in ds
    else (if n == code.event then event_in ds
    else (if n == code.unsubscribe then unsubscribe_in ds
    else (if n == code.unsubscribed then unsubscribed_in ds
    else (if n == code.register then register_in ds
    else (if n == code.registered then registered_in ds
    else (if n == code.unregister then unregister_in ds
    else (if n == code.unregistered then unregistered_in ds
    else (if n == code.call then call_in ds
    else (if n == code.cancel then cancel_in ds
    else (if n == code.result then call_result_in ds
    else (if n == code.invocation then invocation_in ds
    else (if n == code.interrupt then interrupt_in ds
    else (if n == code.yield then yield_in ds
    else Bad Kind)))))))))))))))))))))

abbrev pub list_in : Items → Read
list_in (item (number (unsigned n)) ds) = by_code n ds
list_in ds = Bad Kind

-- the message of a JSON value
abbrev pub message_in : Data → Read
message_in (array ds) = list_in ds
message_in d = Bad NotArray

-- the JSON value of these octets, if they are JSON
abbrev pub json_of : List ℕ → Option Data
json_of octets = if is_utf8 octets then read octets else None

abbrev pub json_read_as : Option Data → Read
json_read_as None = Bad NotJson
json_read_as (Some d) = message_in d

-- what these octets are read as
abbrev pub read_of : List ℕ → Read
read_of octets = json_read_as (json_of octets)
