-- How a client leaves one of its subscriptions (WAMP specification, "Publish and Subscribe"; docs/PROTOCOL.md, "The realm").
use Rattle.std.specs.Prelude.{if◌then◌else◌}
use Rattle.wamp_message_types.specs.declared.request_kind.RequestKind.TheVariants as kind
use Rattle.wamp_message_types.specs.declared.subscribe.Unsubscribe.{Unsubscribe}
use Rattle.wamp_message_types.specs.declared.message.Message.TheVariants as message
use Rattle.realm_subscriptions.specs.Leaving.{is_in}
use Rattle.realm_subscriptions.specs.Leaving as subscriptions
use Rattle.realm_machine.specs.Sayings.{no_such_subscription}
use Rattle.realm_machine.specs.declared.requester.Requester.{Requester}
use Rattle.realm_machine.specs.Content.{Content, Step, reply, refuse, with_subscriptions}

-- a session that is no member of the subscription is refused
abbrev pub unsubscribe : Content → Requester → Unsubscribe → Step
unsubscribe c requester asked =
    if is_in c.subscriptions requester.session asked.subscription
    then reply (with_subscriptions c (subscriptions.unsubscribe c.subscriptions requester.session asked.subscription)) requester.transport
    (message.Unsubscribed (record { request = asked.request }))
    else refuse c requester.transport kind.Unsubscribe asked.request no_such_subscription
