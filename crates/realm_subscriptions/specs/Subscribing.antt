-- How a session comes to a pattern's subscription (WAMP specification, "Publish and Subscribe"; the limits, the refusals and their
-- order are this profile's: docs/PROTOCOL.md, "The realm").
use Rattle.std.specs.Prelude.{ℕ, ◌+◌, Bool, false, [], ◌∷◌, ◌++◌, Option, None, Some, Result, Ok, Err, if◌then◌else◌}
use Rattle.wamp_ids.specs.Pattern.{PatternValue}
use Rattle.realm_sessions.specs.declared.fault.RealmFault.{RealmFault}
use Rattle.realm_sessions.specs.declared.fault.RealmFault.TheVariants.{Limit}
use Rattle.realm_subscriptions.specs.declared.subscription.Subscription.{Subscription}
use Rattle.realm_subscriptions.specs.Subscription.{is_on, is_member, with_member}
use Rattle.realm_subscriptions.specs.Subscriptions.{Subscriptions, with_list, subscription_on, is_full, change_first}

-- what becomes of the subscriptions when a session asks for one, and what is returned
pub record Subscribed : Type 0 where
  pub subscriptions : Subscriptions
  pub answer : Result ℕ RealmFault

-- the session comes as the last member of the pattern's subscription
abbrev pub join : Subscriptions → ℕ → PatternValue → Subscriptions
join subscriptions session pattern =
    with_list subscriptions (change_first (is_on pattern) (λ subscription. Some (with_member session subscription)) subscriptions.list)

-- the pattern has a new subscription, with the next id and the session as its member
abbrev pub add : Subscriptions → ℕ → PatternValue → Subscriptions
add subscriptions session pattern = record subscriptions {
  list = subscriptions.list ++ record { id = subscriptions.last + 1; pattern = pattern; members = session ∷ [] } ∷ [];
  last = subscriptions.last + 1;
}

-- a session that is no member, if the subscription would have this id
abbrev pub unless_full : Subscriptions → ℕ → ℕ → Subscriptions → Subscribed
unless_full subscriptions session id changed =
    if is_full subscriptions session then record { subscriptions = subscriptions; answer = Err Limit }
    else record { subscriptions = changed; answer = Ok id }

-- to a pattern with this subscription, or with none
abbrev pub subscribe_to : Subscriptions → ℕ → PatternValue → Option Subscription → Subscribed
subscribe_to subscriptions session pattern (Some found) =
    if is_member session found then record { subscriptions = subscriptions; answer = Ok found.id }
    else unless_full subscriptions session found.id (join subscriptions session pattern)
subscribe_to subscriptions session pattern None =
    unless_full subscriptions session (subscriptions.last + 1) (add subscriptions session pattern)

-- a member keeps its id, whatever the limit is; another session joins as the last member unless it may have no more
abbrev pub subscribe : Subscriptions → ℕ → PatternValue → Subscribed
subscribe subscriptions session pattern = subscribe_to subscriptions session pattern (subscription_on subscriptions pattern)

-- whether the session is a member of the pattern's subscription
abbrev pub is_subscribed : Subscriptions → ℕ → PatternValue → Bool
is_subscribed subscriptions session pattern = is_member_of (subscription_on subscriptions pattern)
  where
    is_member_of : Option Subscription → Bool
    is_member_of None = false
    is_member_of (Some found) = is_member session found
