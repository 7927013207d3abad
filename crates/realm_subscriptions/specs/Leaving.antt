-- How a session leaves a subscription, and all of them (WAMP specification, "Publish and Subscribe"). One without members is no more.
use Rattle.std.specs.Prelude.{ℕ, Bool, map, filter, Option, None, Some, if◌then◌else◌}
use Rattle.std.specs.List.{list_any}
use Rattle.realm_subscriptions.specs.declared.subscription.Subscription.{Subscription}
use Rattle.realm_subscriptions.specs.Subscription.{is_held, is_kept, without_member}
use Rattle.realm_subscriptions.specs.Subscriptions.{Subscriptions, with_list, change_first}

-- whether the session is a member of the subscription of this id
abbrev pub is_in : Subscriptions → ℕ → ℕ → Bool
is_in subscriptions session id = list_any (is_held session id) subscriptions.list

-- the subscription without the session, if it has members then
abbrev pub left : ℕ → Subscription → Option Subscription
left session subscription = if is_kept (without_member session subscription) then Some (without_member session subscription) else None

-- the session leaves the subscription of this id
abbrev pub unsubscribe : Subscriptions → ℕ → ℕ → Subscriptions
unsubscribe subscriptions session id = with_list subscriptions (change_first (is_held session id) (left session) subscriptions.list)

-- the session leaves all its subscriptions
abbrev pub leave : Subscriptions → ℕ → Subscriptions
leave subscriptions session = with_list subscriptions (filter is_kept (map (without_member session) subscriptions.list))
