-- How a client subscribes to a pattern of topics (WAMP specification, "Publish and Subscribe", "Pattern-based Subscriptions"; the refusals
-- and their order are this profile's: docs/PROTOCOL.md, "The realm").
use Rattle.std.specs.Prelude.{ℕ, Result, Ok, Err}
use Rattle.wamp_ids.specs.declared.uri.UriFault.{UriFault}
use Rattle.wamp_ids.specs.Pattern.{PatternValue, pattern_of}
use Rattle.wamp_message_types.specs.declared.request_kind.RequestKind.TheVariants as kind
use Rattle.wamp_message_types.specs.declared.subscribe.Subscribe.{Subscribe}
use Rattle.wamp_message_types.specs.declared.message.Message.TheVariants as message
use Rattle.realm_sessions.specs.declared.fault.RealmFault.{RealmFault}
use Rattle.realm_subscriptions.specs.Subscriptions.{Subscriptions}
use Rattle.realm_subscriptions.specs.Subscribing.{Subscribed}
use Rattle.realm_subscriptions.specs.Subscribing as subscriptions
use Rattle.realm_machine.specs.Sayings.{invalid_uri, limit}
use Rattle.realm_machine.specs.declared.requester.Requester.{Requester}
use Rattle.realm_machine.specs.Content.{Content, Step, reply, refuse, with_subscriptions}

-- the content with these subscriptions, and what is said to the client; a session is refused only for the limit
abbrev pub subscribed : Content → Requester → ℕ → Subscriptions → Result ℕ RealmFault → Step
subscribed c requester request subscriptions (Ok id) =
    reply (with_subscriptions c subscriptions) requester.transport (message.Subscribed (record { request = request; subscription = id }))
subscribed c requester request subscriptions (Err fault) = refuse c requester.transport kind.Subscribe request limit

abbrev pub answer_subscribe : Content → Requester → ℕ → Subscribed → Step
answer_subscribe c requester request due = subscribed c requester request due.subscriptions due.answer

abbrev pub subscribe_to : Content → Requester → ℕ → Result PatternValue UriFault → Step
subscribe_to c requester request (Ok pattern) =
    answer_subscribe c requester request (subscriptions.subscribe c.subscriptions requester.session pattern)
subscribe_to c requester request (Err fault) = refuse c requester.transport kind.Subscribe request invalid_uri

-- a text that is no pattern with this match is refused
abbrev pub subscribe : Content → Requester → Subscribe → Step
subscribe c requester asked = subscribe_to c requester asked.request (pattern_of asked.topic asked.matching)
