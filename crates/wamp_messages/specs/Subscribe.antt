-- The messages of subscriptions (WAMP specification, "Publish and Subscribe"; the keys and their defaults:
-- docs/PROTOCOL.md, "Messages").
use Rattle.std.specs.Prelude.{ℕ, false, List, Option, Some, None, codes}
use Rattle.serde_json.specs.Data.{Data, string, array, Items, no_items, item}
use Rattle.wamp_ids.specs.declared.policy.Match.{Match}
use Rattle.wamp_ids.specs.declared.policy.Match.TheVariants.{Exact, Prefix, Wildcard}
use Rattle.wamp_message_types.specs.Codes as code
use Rattle.wamp_message_layouts.specs.Parts.{whole, only, nothing}
use Rattle.wamp_values.specs.Options.{match_in}
use Rattle.wamp_message_layouts.specs.declared.layouts.TwoIds.{TwoIds}
use Rattle.wamp_message_layouts.specs.Layouts.{taken, one_id, one_id_of, two_ids, two_ids_of, id_dictionary_text, Asked, asked_of}
use Rattle.wamp_message_types.specs.declared.subscribe.Subscribe.{Subscribe}
use Rattle.wamp_message_types.specs.declared.subscribe.Subscribed.{Subscribed}
use Rattle.wamp_message_types.specs.declared.subscribe.Unsubscribe.{Unsubscribe}
use Rattle.wamp_message_types.specs.declared.subscribe.Unsubscribed.{Unsubscribed}
use Rattle.wamp_message_types.specs.declared.message.Message.TheVariants as message
use Rattle.wamp_message_types.specs.declared.read_result.UnfitKind.TheVariants as unfit
use Rattle.wamp_message_types.specs.declared.read_result.Read.{Read}
use Rattle.wamp_message_types.specs.declared.read_result.Read.TheVariants.{Good, Unfit}
use Rattle.wamp_messages.specs.ReadResult.{read_as}

-- ---- SUBSCRIBE: Request, Options, Topic

abbrev pub match_options : Match → Data
match_options Exact = nothing
match_options Prefix = only (codes "match") (string (codes "prefix"))
match_options Wildcard = only (codes "match") (string (codes "wildcard"))

abbrev pub subscribe_value : Subscribe → Data
subscribe_value subscribe =
    array
    (item (whole code.subscribe)
    (item (whole subscribe.request) (item (match_options subscribe.matching) (item (string subscribe.topic) no_items))))

abbrev pub subscribe_with : ℕ → Option Match → List ℕ → Read
subscribe_with request (Some matching) topic = Good (message.Subscribe (record { request = request; matching = matching; topic = topic }))
subscribe_with request None topic = Unfit unfit.Subscribe request false

abbrev pub subscribe_read : Asked → Read
subscribe_read asked = subscribe_with asked.request (match_in asked.options) asked.uri

abbrev pub subscribe_in : Items → Read
subscribe_in ds = read_as subscribe_read (taken id_dictionary_text asked_of ds)

-- ---- SUBSCRIBED: Request, Subscription

abbrev pub subscribed_value : Subscribed → Data
subscribed_value subscribed =
    array (item (whole code.subscribed) (item (whole subscribed.request) (item (whole subscribed.subscription) no_items)))

abbrev pub subscribed_read : TwoIds → Read
subscribed_read ids = Good (message.Subscribed (record { request = ids.first; subscription = ids.second }))

abbrev pub subscribed_in : Items → Read
subscribed_in ds = read_as subscribed_read (taken two_ids two_ids_of ds)

-- ---- UNSUBSCRIBE: Request, Subscription

abbrev pub unsubscribe_value : Unsubscribe → Data
unsubscribe_value unsubscribe = array (item (whole code.unsubscribe) (item (whole unsubscribe.request) (item (whole unsubscribe.subscription) no_items)))

abbrev pub unsubscribe_read : TwoIds → Read
unsubscribe_read ids = Good (message.Unsubscribe (record { request = ids.first; subscription = ids.second }))

abbrev pub unsubscribe_in : Items → Read
unsubscribe_in ds = read_as unsubscribe_read (taken two_ids two_ids_of ds)

-- ---- UNSUBSCRIBED: Request

abbrev pub unsubscribed_value : Unsubscribed → Data
unsubscribed_value unsubscribed = array (item (whole code.unsubscribed) (item (whole unsubscribed.request) no_items))

abbrev pub unsubscribed_read : ℕ → Read
unsubscribed_read id = Good (message.Unsubscribed (record { request = id }))

abbrev pub unsubscribed_in : Items → Read
unsubscribed_in ds = read_as unsubscribed_read (taken one_id one_id_of ds)
