-- What a realm is made of, as a snapshot has it, and what no realm is made of (docs/PROTOCOL.md, "Snapshots").
use Rattle.std.specs.Prelude.{◌≡◌, ℕ, Bool, not, ◌||◌, List, Option, None, Some, option_map, Result, Ok, Err, if◌then◌else◌}
use Rattle.std.specs.List.{list_any}
use Rattle.realm_sessions.specs.declared.links.Link.{Link}
use Rattle.realm_sessions.specs.Links.{is_taken}
use Rattle.realm_sessions.specs.Sessions.{Sessions}
use Rattle.realm_sessions.specs.Restoring.{sessions_of}
use Rattle.realm_registrations.specs.declared.registration.Registration.{Registration}
use Rattle.realm_registrations.specs.Registrations.{Registrations}
use Rattle.realm_registrations.specs.Restoring.{registrations_of}
use Rattle.realm_subscriptions.specs.declared.subscription.Subscription.{Subscription}
use Rattle.realm_subscriptions.specs.Subscriptions.{Subscriptions}
use Rattle.realm_subscriptions.specs.Restoring.{subscriptions_of}
use Rattle.realm_calls.specs.declared.calls.Open.{Open}
use Rattle.realm_calls.specs.Calls.{Calls}
use Rattle.realm_calls.specs.Restoring.{calls_of}
use Rattle.realm_machine.specs.declared.config.Limits.{Limits}
use Rattle.realm_machine.specs.Config.{Config}
use Rattle.realm_machine.specs.Content.{Content}
use Rattle.realm_machine.specs.Realm.{State}
use Rattle.realm_machine.specs.Machine.{Live}

-- what is in a realm, in lists
pub record Lists : Type 0 where
  -- the connected transports in the order in which they came
  pub links : List Link
  pub registrations : List Registration
  -- the greatest id that was handed out, 0 before the first
  pub last_registration : ℕ
  pub subscriptions : List Subscription
  pub last_subscription : ℕ
  -- in order of opening
  pub calls : List Open

-- the lists of a content
abbrev pub lists_of : Content → Lists
lists_of c = record {
  links = c.sessions.list;
  registrations = c.registrations.list;
  last_registration = c.registrations.last;
  subscriptions = c.subscriptions.list;
  last_subscription = c.subscriptions.last;
  calls = c.calls.list;
}

abbrev pub shown : {E : Type 0} → Config → Option Content → Result Live E → Type 0
shown config None (Ok live) = ⊥
shown config None (Err e) = Unit {0}
shown config (Some c) (Ok live) = live ≡ record { config = config; content = c }
shown config (Some c) (Err e) = ⊥

-- a realm shows what it is made with and what it holds, unless it has failed
abbrev pub Shows : {E : Type 0} → State → Result Live E → Type 0
Shows realm result = shown realm.config realm.content result

-- ---- ids that name no session

abbrev pub is_nobody : List Link → ℕ → Bool
is_nobody links id = not (is_taken links id)

abbrev pub is_called_of_nobody : List Link → Registration → Bool
is_called_of_nobody links registration = list_any (is_nobody links) registration.callees

abbrev pub is_joined_by_nobody : List Link → Subscription → Bool
is_joined_by_nobody links subscription = list_any (is_nobody links) subscription.members

abbrev pub is_of_nobody : List Link → Open → Bool
is_of_nobody links call = is_nobody links call.caller || is_nobody links call.callee

-- a callee, a member, a caller or the callee of a call is no session
abbrev pub name_nobody : Lists → Bool
name_nobody lists =
    list_any (is_called_of_nobody lists.links) lists.registrations
    || (list_any (is_joined_by_nobody lists.links) lists.subscriptions || list_any (is_of_nobody lists.links) lists.calls)

-- ---- the content of lists, part after part

abbrev pub from_calls : Sessions → Registrations → Subscriptions → Option Calls → Option Content
from_calls sessions registrations subscriptions None = None
from_calls sessions registrations subscriptions (Some calls) =
    Some (record { sessions = sessions; registrations = registrations; subscriptions = subscriptions; calls = calls })

abbrev pub from_subscriptions : Limits → Lists → Sessions → Registrations → Option Subscriptions → Option Content
from_subscriptions limits lists sessions registrations None = None
from_subscriptions limits lists sessions registrations (Some subscriptions) =
    from_calls sessions registrations subscriptions (calls_of limits.calls lists.calls)

abbrev pub from_registrations : Limits → Lists → Sessions → Option Registrations → Option Content
from_registrations limits lists sessions None = None
from_registrations limits lists sessions (Some registrations) =
    from_subscriptions limits lists sessions registrations
    (subscriptions_of limits.subscriptions lists.subscriptions lists.last_subscription)

abbrev pub from_sessions : Limits → Lists → Option Sessions → Option Content
from_sessions limits lists None = None
from_sessions limits lists (Some sessions) =
    if name_nobody lists then None
    else from_registrations limits lists sessions (registrations_of limits.registrations lists.registrations lists.last_registration)

-- the content of these lists under these limits, unless no realm has it
abbrev pub content_of : Limits → Lists → Option Content
content_of limits lists = from_sessions limits lists (sessions_of limits.sessions lists.links)

-- the realm of this configuration and these lists
abbrev pub realm_with : Config → Lists → Option State
realm_with config lists = option_map (λ content. record { config = config; content = Some content }) (content_of config.limits lists)
