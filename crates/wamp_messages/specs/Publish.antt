-- The messages of publications and events (WAMP specification, "Publish and Subscribe"; the keys and their defaults:
-- docs/PROTOCOL.md, "Messages").
use Rattle.std.specs.Prelude.{ℕ, Bool, true, false, not, List, [], ◌∷◌, Option, Some, codes, unwrap_or}
use Rattle.serde_json.specs.Data.{Data, string, boolean, array, object, Items, no_items, item, no_members, member}
use Rattle.wamp_values.specs.Args.{args_items}
use Rattle.wamp_values.specs.declared.args.Args.{Args}
use Rattle.wamp_message_types.specs.Codes as code
use Rattle.wamp_message_layouts.specs.Keys.{text_at}
use Rattle.wamp_message_layouts.specs.Parts.{whole, only, nothing, dictionary_of, text_told}
use Rattle.wamp_values.specs.Options.{flag_in}
use Rattle.wamp_message_layouts.specs.declared.layouts.TwoIds.{TwoIds}
use Rattle.wamp_message_layouts.specs.declared.keys.Key.{Key}
use Rattle.wamp_message_layouts.specs.declared.keys.Key.TheVariants.{Topic}
use Rattle.wamp_message_layouts.specs.Layouts.{taken, two_ids, two_ids_of, id_dictionary_text_args, Asked, asked_of, two_ids_keys_args, Keyed, keyed_of}
use Rattle.wamp_message_types.specs.declared.publish.Publish.{Publish}
use Rattle.wamp_message_types.specs.declared.publish.Published.{Published}
use Rattle.wamp_message_types.specs.declared.publish.Event.{Event}
use Rattle.wamp_message_types.specs.declared.message.Message.TheVariants as message
use Rattle.wamp_message_types.specs.declared.read_result.UnfitKind.TheVariants as unfit
use Rattle.wamp_message_types.specs.declared.read_result.Read.{Read}
use Rattle.wamp_message_types.specs.declared.read_result.Read.TheVariants.{Good, Unfit}
use Rattle.wamp_messages.specs.ReadResult.{read_as}

-- ---- PUBLISH: Request, Options, Topic, Args

-- options hold exactly the keys whose values differ from their defaults
abbrev pub publish_options : Bool → Bool → Data
publish_options false true = nothing
publish_options true true = only (codes "acknowledge") (boolean true)
publish_options false false = only (codes "exclude_me") (boolean false)
publish_options true false = object (member (codes "acknowledge") (boolean true) (member (codes "exclude_me") (boolean false) no_members))

abbrev pub publish_value : Publish → Data
publish_value publish =
    array
    (item (whole code.publish)
    (item (whole publish.request)
    (item (publish_options publish.acknowledge publish.exclude_me) (item (string publish.topic) (args_items publish.args)))))

abbrev pub publish_with : ℕ → Option Bool → Option Bool → List ℕ → Option Args → Read
publish_with request (Some acknowledge) (Some exclude_me) topic (Some args) =
    Good (message.Publish (record { request = request; acknowledge = acknowledge; exclude_me = exclude_me; topic = topic; args = args }))
publish_with request acknowledge exclude_me topic args = Unfit unfit.Publish request (not (unwrap_or acknowledge false))

abbrev pub publish_read : Asked → Read
publish_read asked =
    publish_with asked.request (flag_in (codes "acknowledge") false asked.options)
    (flag_in (codes "exclude_me") true asked.options) asked.uri asked.args

abbrev pub publish_in : Items → Read
publish_in ds = read_as publish_read (taken id_dictionary_text_args asked_of ds)

-- ---- PUBLISHED: Request, Publication

abbrev pub published_value : Published → Data
published_value published =
    array (item (whole code.published) (item (whole published.request) (item (whole published.publication) no_items)))

abbrev pub published_read : TwoIds → Read
published_read ids = Good (message.Published (record { request = ids.first; publication = ids.second }))

abbrev pub published_in : Items → Read
published_in ds = read_as published_read (taken two_ids two_ids_of ds)

-- ---- EVENT: Subscription, Publication, Details, Args

abbrev pub event_keys : List Key
event_keys = Topic ∷ []

abbrev pub event_told : Option (List ℕ) → List (Key × Option Data)
event_told topic = (Topic, text_told topic) ∷ []

abbrev pub event_value : Event → Data
event_value event =
    array
    (item (whole code.event)
    (item (whole event.subscription)
    (item (whole event.publication) (item (dictionary_of (event_told event.topic)) (args_items event.args)))))

abbrev pub event_read : Keyed → Read
event_read keyed =
    Good (message.Event (record {
      subscription = keyed.first;
      publication = keyed.second;
      topic = text_at Topic keyed.details;
      args = keyed.args;
    }))

abbrev pub event_in : Items → Read
event_in ds = read_as event_read (taken (two_ids_keys_args event_keys) keyed_of ds)
