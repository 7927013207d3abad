-- What goes through a ring may go to another thread. The check looks for this by itself, but gives up at the 22 kinds of a message, whose
-- arguments hold one another; so a kind is shown from its fields, and a message from its kinds.
use denote.Param.Send.{IsSend, IsSync, sendable, enum_send}
use denote.Enum.Declared.{shape}
use Rattle.std.proofs.Crossing as heap
use Rattle.std.proofs.MapsCrossing as maps
use Rattle.bytes.proofs.shared.Bytes.TheSendSync as octets
use Rattle.serde_json.specs.contracts.number.Number as number
use Rattle.serde_json.specs.contracts.value.Value as value
use Rattle.serde_json.proofs.value.Value.TheLaws.TheKnot as knot
use Rattle.wamp_ids.specs.contracts.text.Text as text
use Rattle.wamp_values.specs.contracts.payload.Payload as payload
use Rattle.wamp_values.specs.contracts.args.Arguments as arguments
use Rattle.wamp_values.specs.contracts.args.ArgumentsKw as arguments_kw
use Rattle.wamp_values.specs.contracts.args.Args as args
use Rattle.wamp_message_types.specs.contracts.session.Hello as hello
use Rattle.wamp_message_types.specs.contracts.session.Welcome as welcome
use Rattle.wamp_message_types.specs.contracts.session.Abort as abort
use Rattle.wamp_message_types.specs.contracts.session.Goodbye as goodbye
use Rattle.wamp_message_types.specs.contracts.error.Error as error
use Rattle.wamp_message_types.specs.contracts.publish.Publish as publish
use Rattle.wamp_message_types.specs.contracts.publish.Published as published
use Rattle.wamp_message_types.specs.contracts.subscribe.Subscribe as subscribe
use Rattle.wamp_message_types.specs.contracts.subscribe.Subscribed as subscribed
use Rattle.wamp_message_types.specs.contracts.publish.Event as event
use Rattle.wamp_message_types.specs.contracts.subscribe.Unsubscribe as unsubscribe
use Rattle.wamp_message_types.specs.contracts.subscribe.Unsubscribed as unsubscribed
use Rattle.wamp_message_types.specs.contracts.register.Register as register
use Rattle.wamp_message_types.specs.contracts.register.Registered as registered
use Rattle.wamp_message_types.specs.contracts.register.Unregister as unregister
use Rattle.wamp_message_types.specs.contracts.register.Unregistered as unregistered
use Rattle.wamp_message_types.specs.contracts.call.Call as call
use Rattle.wamp_message_types.specs.contracts.call.Cancel as cancel
use Rattle.wamp_message_types.specs.contracts.call.CallResult as reply
use Rattle.wamp_message_types.specs.contracts.call.Invocation as invocation
use Rattle.wamp_message_types.specs.contracts.call.Interrupt as interrupt
use Rattle.wamp_message_types.specs.contracts.call.Yield as yield
use Rattle.wamp_message_types.specs.contracts.message.Message as message
use Rattle.wamp_message_types.specs.contracts.read_result.Read as read
use Rattle.client_listener.specs.contracts.items.FromClient as from_client
use Rattle.client_listener.specs.contracts.items.ToClient as to_client

-- ---- fields

pub text_send : IsSend text.the_field.row
text_send = search (sendable, heap.crosses, maps.crosses) depth 20

pub number_send : IsSend number.the_field.row
number_send = search sendable depth 20

pub value_send : IsSend value.the_field.row
value_send = let n = number_send in search (sendable, heap.crosses, maps.crosses, knot.send-Value) depth 20

pub payload_send : IsSend payload.the_field.row
payload_send = let v = value_send in search sendable depth 20

-- arguments are held once, by several threads at a time
pub number_sync : IsSync number.the_field.row
number_sync = search sendable depth 20

pub value_sync : IsSync value.the_field.row
value_sync = let n = number_sync in search (sendable, heap.crosses, maps.crosses, knot.sync-Value) depth 20

pub payload_sync : IsSync payload.the_field.row
payload_sync = let v = value_sync in search sendable depth 20

pub arguments_send : IsSend arguments.the_field.row
arguments_send = let v = payload_send in let w = payload_sync in search (sendable, heap.crosses) depth 20

pub arguments_kw_send : IsSend arguments_kw.the_field.row
arguments_kw_send = let v = payload_send in let w = payload_sync in search (sendable, heap.crosses) depth 20

pub args_send : IsSend args.the_field.row
args_send = let v = arguments_send in let w = arguments_kw_send in search sendable depth 20

-- ---- kinds

pub hello_send : IsSend hello.the_field.row
hello_send = let t = text_send in let a = args_send in search sendable depth 20

pub welcome_send : IsSend welcome.the_field.row
welcome_send = let t = text_send in let a = args_send in search sendable depth 20

pub abort_send : IsSend abort.the_field.row
abort_send = let t = text_send in let a = args_send in search sendable depth 20

pub goodbye_send : IsSend goodbye.the_field.row
goodbye_send = let t = text_send in let a = args_send in search sendable depth 20

pub error_send : IsSend error.the_field.row
error_send = let t = text_send in let a = args_send in search sendable depth 20

publish_send : IsSend publish.the_field.row
publish_send = let t = text_send in let a = args_send in search sendable depth 20

published_send : IsSend published.the_field.row
published_send = let t = text_send in let a = args_send in search sendable depth 20

pub subscribe_send : IsSend subscribe.the_field.row
subscribe_send = let t = text_send in let a = args_send in search sendable depth 20

pub subscribed_send : IsSend subscribed.the_field.row
subscribed_send = let t = text_send in let a = args_send in search sendable depth 20

pub event_send : IsSend event.the_field.row
event_send = let t = text_send in let a = args_send in search sendable depth 20

pub unsubscribe_send : IsSend unsubscribe.the_field.row
unsubscribe_send = let t = text_send in let a = args_send in search sendable depth 20

pub unsubscribed_send : IsSend unsubscribed.the_field.row
unsubscribed_send = let t = text_send in let a = args_send in search sendable depth 20

pub register_send : IsSend register.the_field.row
register_send = let t = text_send in let a = args_send in search sendable depth 20

pub registered_send : IsSend registered.the_field.row
registered_send = let t = text_send in let a = args_send in search sendable depth 20

pub unregister_send : IsSend unregister.the_field.row
unregister_send = let t = text_send in let a = args_send in search sendable depth 20

pub unregistered_send : IsSend unregistered.the_field.row
unregistered_send = let t = text_send in let a = args_send in search sendable depth 20

pub call_send : IsSend call.the_field.row
call_send = let t = text_send in let a = args_send in search sendable depth 20

pub cancel_send : IsSend cancel.the_field.row
cancel_send = let t = text_send in let a = args_send in search sendable depth 20

pub reply_send : IsSend reply.the_field.row
reply_send = let t = text_send in let a = args_send in search sendable depth 20

pub invocation_send : IsSend invocation.the_field.row
invocation_send = let t = text_send in let a = args_send in search sendable depth 20

pub interrupt_send : IsSend interrupt.the_field.row
interrupt_send = let t = text_send in let a = args_send in search sendable depth 20

pub yield_send : IsSend yield.the_field.row
yield_send = let t = text_send in let a = args_send in search sendable depth 20

-- ---- what goes through a ring

pub message_send : IsSend message.the_field.row
message_send = enum_send (shape message.the_type) ((hello_send, tt), ((welcome_send, tt), ((abort_send, tt), ((goodbye_send, tt), ((error_send, tt), ((publish_send, tt), ((published_send, tt), ((subscribe_send, tt), ((subscribed_send, tt), ((event_send, tt), ((unsubscribe_send, tt), ((unsubscribed_send, tt), ((register_send, tt), ((registered_send, tt), ((unregister_send, tt), ((unregistered_send, tt), ((call_send, tt), ((cancel_send, tt), ((reply_send, tt), ((invocation_send, tt), ((interrupt_send, tt), ((yield_send, tt), tt))))))))))))))))))))))

pub read_send : IsSend read.the_field.row
read_send = let m = message_send in search sendable depth 20

pub from_client_send : IsSend from_client.the_field.row
from_client_send = let r = read_send in search (sendable, heap.crosses, octets.the_send) depth 20

pub to_client_send : IsSend to_client.the_field.row
to_client_send = let m = message_send in search (sendable, heap.crosses, octets.the_send) depth 20
