-- How a client publishes to a topic's members (WAMP specification, "Publish and Subscribe", "Pattern-based Subscriptions"; docs/PROTOCOL.md, "The realm").
use Rattle.std.specs.Prelude.{ℕ, List, [], ◌∷◌, ◌++◌, Option, None, Some, if◌then◌else◌}
use Rattle.std.specs.List.{flat_map}
use Rattle.wamp_values.specs.declared.args.Args.{Args}
use Rattle.wamp_message_types.specs.declared.request_kind.RequestKind.TheVariants as kind
use Rattle.wamp_message_types.specs.declared.publish.Publish.{Publish}
use Rattle.wamp_message_types.specs.declared.message.Message.TheVariants as message
use Rattle.realm_subscriptions.specs.Receiving.{receivers}
use Rattle.realm_machine.specs.declared.sayings.say.Say.{Say}
use Rattle.realm_machine.specs.Sayings.{say, invalid_uri}
use Rattle.realm_machine.specs.Sayings.Events.{event_to, is_open_topic}
use Rattle.realm_machine.specs.declared.requester.Requester.{Requester}
use Rattle.realm_machine.specs.Content.{Content, Step, quiet, refuse}

-- the events of a publication: subscriptions by ascending id, the members of each in the order of joining
abbrev pub events : Content → List ℕ → ℕ → Args → Option ℕ → List Say
events c topic publication args except =
    flat_map (event_to c.sessions.list topic publication args) (receivers c.subscriptions topic except)

-- the PUBLISHED that confirms a publication to its client
abbrev pub published : Requester → ℕ → Say
published requester request = say requester.transport (message.Published (record { request = request; publication = requester.draw }))

abbrev pub publish : Content → Requester → Publish → Step
publish c requester asked =
    if is_open_topic asked.topic
    then record {
      content = c;
      says = (if asked.acknowledge then published requester asked.request ∷ [] else [])
          ++ events c asked.topic requester.draw asked.args (if asked.exclude_me then Some requester.session else None);
    }
    else (if asked.acknowledge then refuse c requester.transport kind.Publish asked.request invalid_uri else quiet c)
