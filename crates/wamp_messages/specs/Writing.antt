-- A message as the JSON value that stands for it, and its text (WAMP specification, "Message Definitions").
use Rattle.std.specs.Prelude.{ℕ, List}
use Rattle.serde_json.specs.Written.{compact_text}
use Rattle.serde_json.specs.Data.{Data}
use Rattle.wamp_message_types.specs.declared.message.Message.{Message}
use Rattle.wamp_message_types.specs.declared.message.Message.TheVariants.{Hello, Welcome, Abort, Goodbye, Error, Publish, Published}
use Rattle.wamp_message_types.specs.declared.message.Message.TheVariants.{Subscribe, Subscribed, Event, Unsubscribe, Unsubscribed}
use Rattle.wamp_message_types.specs.declared.message.Message.TheVariants.{Register, Registered, Unregister, Unregistered}
use Rattle.wamp_message_types.specs.declared.message.Message.TheVariants.{Call, Cancel, CallResult, Invocation, Interrupt, Yield}
use Rattle.wamp_messages.specs.Session.{hello_value, welcome_value, abort_value, goodbye_value}
use Rattle.wamp_messages.specs.Error.{error_value}
use Rattle.wamp_messages.specs.Publish.{publish_value, published_value, event_value}
use Rattle.wamp_messages.specs.Subscribe.{subscribe_value, subscribed_value, unsubscribe_value, unsubscribed_value}
use Rattle.wamp_messages.specs.Register.{register_value, registered_value, unregister_value, unregistered_value}
use Rattle.wamp_messages.specs.Call.{call_value, cancel_value, call_result_value, invocation_value, interrupt_value, yield_value}

abbrev pub value_of : Message → Data
value_of (Hello hello) = hello_value hello
value_of (Welcome welcome) = welcome_value welcome
value_of (Abort abort) = abort_value abort
value_of (Goodbye goodbye) = goodbye_value goodbye
value_of (Error error) = error_value error
value_of (Publish publish) = publish_value publish
value_of (Published published) = published_value published
value_of (Subscribe subscribe) = subscribe_value subscribe
value_of (Subscribed subscribed) = subscribed_value subscribed
value_of (Event event) = event_value event
value_of (Unsubscribe unsubscribe) = unsubscribe_value unsubscribe
value_of (Unsubscribed unsubscribed) = unsubscribed_value unsubscribed
value_of (Register register) = register_value register
value_of (Registered registered) = registered_value registered
value_of (Unregister unregister) = unregister_value unregister
value_of (Unregistered unregistered) = unregistered_value unregistered
value_of (Call call) = call_value call
value_of (Cancel cancel) = cancel_value cancel
value_of (CallResult reply) = call_result_value reply
value_of (Invocation invocation) = invocation_value invocation
value_of (Interrupt interrupt) = interrupt_value interrupt
value_of (Yield yielded) = yield_value yielded

-- the message's one canonical text: its value as compact JSON
abbrev pub text_of : Message → List ℕ
text_of message = compact_text (value_of message)
