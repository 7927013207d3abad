-- The events of a publication, and the topics that clients may publish to (WAMP specification, "Publish and Subscribe", "Pattern-based
-- Subscriptions"; docs/PROTOCOL.md, "The realm").
use Rattle.std.specs.Prelude.{ℕ, Bool, not, ◌&&◌, is_ok, List, Option, None, Some}
use Rattle.wamp_ids.specs.declared.policy.Match.{Match}
use Rattle.wamp_ids.specs.declared.policy.Match.TheVariants.{Exact, Prefix, Wildcard}
use Rattle.wamp_ids.specs.Uri.{uri_of, is_reserved}
use Rattle.wamp_values.specs.declared.args.Args.{Args}
use Rattle.wamp_message_types.specs.declared.publish.Event.{Event}
use Rattle.wamp_message_types.specs.declared.message.Message.TheVariants as message
use Rattle.realm_subscriptions.specs.declared.receiving.Receiver.{Receiver}
use Rattle.realm_sessions.specs.declared.links.Link.{Link}
use Rattle.realm_machine.specs.declared.sayings.say.Say.{Say}
use Rattle.realm_machine.specs.Sayings.{to_session}

-- an event names its topic unless the match is exact, even if URI and pattern are equal texts
abbrev pub told_topic : Match → List ℕ → Option (List ℕ)
told_topic Exact topic = None
told_topic Prefix topic = Some topic
told_topic Wildcard topic = Some topic

abbrev pub event_of : List ℕ → ℕ → Args → Receiver → Event
event_of topic publication args receiver = record {
  subscription = receiver.subscription;
  publication = publication;
  topic = told_topic receiver.matching topic;
  args = args;
}

abbrev pub event_to : List Link → List ℕ → ℕ → Args → Receiver → List Say
event_to links topic publication args receiver =
    to_session links receiver.member (message.Event (event_of topic publication args receiver))

-- a topic that clients may publish to: a URI that is not the router's own
abbrev pub is_open_topic : List ℕ → Bool
is_open_topic topic = is_ok (uri_of topic) && not (is_reserved topic)
