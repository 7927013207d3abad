-- What is known of each message that the code holds (WAMP specification, "IDs" and
-- "Protocol Messages"; payloads: docs/PROTOCOL.md, "Reading").
use Rattle.std.specs.Prelude.{ℕ, IsTrue, ⊤}
use Rattle.std.specs.Str.{IsUtf8}
use Rattle.wamp_ids.specs.Id.{is_id}
use Rattle.wamp_values.specs.Args.{IsArgs}
use Rattle.wamp_message_layouts.specs.Parts.{IsToldId}
use Rattle.wamp_message_types.specs.declared.message.Message.{Message}
use Rattle.wamp_message_types.specs.declared.message.Message.TheVariants.{Hello, Welcome, Abort, Goodbye, Error, Publish, Published}
use Rattle.wamp_message_types.specs.declared.message.Message.TheVariants.{Subscribe, Subscribed, Event, Unsubscribe, Unsubscribed}
use Rattle.wamp_message_types.specs.declared.message.Message.TheVariants.{Register, Registered, Unregister, Unregistered}
use Rattle.wamp_message_types.specs.declared.message.Message.TheVariants.{Call, Cancel, CallResult, Invocation, Interrupt, Yield}
use Rattle.wamp_messages.specs.Writing.{text_of}

abbrev pub IsId : ℕ → Type 0
IsId n = IsTrue (is_id n)

-- the ids are ids, and the arguments are payloads of the right kind
abbrev pub HasParts : Message → Type 0
HasParts (Hello hello) = ⊤
HasParts (Welcome welcome) = IsId welcome.session
HasParts (Abort abort) = IsArgs abort.args
HasParts (Goodbye goodbye) = ⊤
HasParts (Error error) = IsId error.request × IsArgs error.args
HasParts (Publish publish) = IsId publish.request × IsArgs publish.args
HasParts (Published published) = IsId published.request × IsId published.publication
HasParts (Subscribe subscribe) = IsId subscribe.request
HasParts (Subscribed subscribed) = IsId subscribed.request × IsId subscribed.subscription
HasParts (Event event) = IsId event.subscription × (IsId event.publication × IsArgs event.args)
HasParts (Unsubscribe unsubscribe) = IsId unsubscribe.request × IsId unsubscribe.subscription
HasParts (Unsubscribed unsubscribed) = IsId unsubscribed.request
HasParts (Register register) = IsId register.request
HasParts (Registered registered) = IsId registered.request × IsId registered.registration
HasParts (Unregister unregister) = IsId unregister.request × IsId unregister.registration
HasParts (Unregistered unregistered) = IsId unregistered.request
HasParts (Call call) = IsId call.request × IsArgs call.args
HasParts (Cancel cancel) = IsId cancel.request
HasParts (CallResult reply) = IsId reply.request × IsArgs reply.args
HasParts (Invocation invocation) =
    IsId invocation.request × (IsId invocation.registration × (IsToldId invocation.caller × IsArgs invocation.args))
HasParts (Interrupt interrupt) = IsId interrupt.request
HasParts (Yield yielded) = IsId yielded.request × IsArgs yielded.args

-- besides, all of its texts are UTF-8
pub record IsMessage (m : Message) : Type 0 where
  pub parts : HasParts m
  pub utf8 : IsUtf8 (text_of m)
