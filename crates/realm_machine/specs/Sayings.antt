-- What the realm says to transports.
pub mod Invocations
pub mod Endings
pub mod Events
use Rattle.std.specs.Prelude.{ℕ, List, [], ◌∷◌, Option, None, Some, codes}
use Rattle.paxos_packets.specs.declared.transport.Transport.{Transport}
use Rattle.wamp_values.specs.declared.args.Args.TheVariants.{Nothing}
use Rattle.wamp_message_types.specs.declared.request_kind.RequestKind.{RequestKind}
use Rattle.wamp_message_types.specs.declared.message.Message.{Message}
use Rattle.wamp_message_types.specs.declared.message.Message.TheVariants.{Abort, Goodbye, Error}
use Rattle.realm_machine.specs.declared.sayings.say.Out.TheVariants.{Send, Close}
use Rattle.realm_machine.specs.declared.sayings.say.Say.{Say}
use Rattle.realm_sessions.specs.declared.links.Link.{Link}
use Rattle.realm_sessions.specs.Links.{transport_of}
-- the URIs of errors that are faults of a realm's parts, too
pub use Rattle.realm_sessions.specs.Fault.{invalid_uri, invalid_argument, no_such_subscription, no_such_procedure, limit}

abbrev pub say : Transport → Message → Say
say t message = record { transport = t; out = Send message }

abbrev pub shut : Transport → Say
shut t = record { transport = t; out = Close }

-- to this transport, if there is one
abbrev pub say_to : Option Transport → Message → List Say
say_to None message = []
say_to (Some t) message = say t message ∷ []

-- to the transport of this session, if there is one
abbrev pub to_session : List Link → ℕ → Message → List Say
to_session links session message = say_to (transport_of links session) message

-- the other URIs of errors and reasons (WAMP specification, "Predefined URIs")
abbrev pub no_such_realm : List ℕ
no_such_realm = codes "wamp.error.no_such_realm"

abbrev pub canceled : List ℕ
canceled = codes "wamp.error.canceled"

abbrev pub protocol_violation : List ℕ
protocol_violation = codes "wamp.error.protocol_violation"

abbrev pub goodbye_and_out : List ℕ
goodbye_and_out = codes "wamp.close.goodbye_and_out"

abbrev pub system_shutdown : List ℕ
system_shutdown = codes "wamp.close.system_shutdown"

-- a request is refused
abbrev pub refusal : RequestKind → ℕ → List ℕ → Message
refusal kind request error = Error (record { kind = kind; request = request; error = error; args = Nothing })

abbrev pub abort : List ℕ → Message
abort reason = Abort (record { reason = reason; args = Nothing })

abbrev pub goodbye : List ℕ → Message
goodbye reason = Goodbye (record { reason = reason })
