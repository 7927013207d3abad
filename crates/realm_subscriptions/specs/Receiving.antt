-- The receivers of an event (WAMP specification, "Publish and Subscribe", "Pattern-based Subscriptions", "Publisher Exclusion").
use Rattle.std.specs.Prelude.{ℕ, ◌==◌, Bool, true, not, List, map, filter, Option, None, Some}
use Rattle.std.specs.List.{flat_map}
use Rattle.wamp_patterns.specs.Ranking.{matching}
use Rattle.realm_subscriptions.specs.declared.receiving.Receiver.{Receiver}
use Rattle.realm_subscriptions.specs.declared.subscription.Subscription.{Subscription}
use Rattle.realm_subscriptions.specs.Subscriptions.{Subscriptions}

-- everybody, or everybody but this session
abbrev pub is_for : Option ℕ → ℕ → Bool
is_for None member = true
is_for (Some session) member = not (member == session)

abbrev pub receiver : Subscription → ℕ → Receiver
receiver subscription member =
    record { subscription = subscription.id; matching = subscription.pattern.matching; member = member }

-- of one subscription, in the order of joining
abbrev pub receivers_of : Option ℕ → Subscription → List Receiver
receivers_of except subscription = map (receiver subscription) (filter (is_for except) subscription.members)

-- of all whose patterns match the URI, by ascending id over all three matches
abbrev pub receivers : Subscriptions → List ℕ → Option ℕ → List Receiver
receivers subscriptions uri except =
    flat_map (receivers_of except) (matching (λ subscription. subscription.pattern) subscriptions.list uri)
