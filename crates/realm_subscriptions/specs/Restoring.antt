-- Subscriptions out of a list, as a snapshot has it (docs/PROTOCOL.md, "Snapshots"), and what no list has.
use Rattle.std.specs.Prelude.{ℕ, ◌==◌, Bool, not, ◌||◌, List, [], ◌∷◌, Option, None, Some, if◌then◌else◌}
use Rattle.std.specs.List.{list_any}
use Rattle.wamp_ids.specs.Pattern.{PatternValue}
use Rattle.realm_sessions.specs.Apart.{has_two}
use Rattle.realm_groups.specs.Groups.{Listed}
use Rattle.realm_groups.specs.Restoring.{are_damaged, and_put, ended_at, put_group, put_list}
use Rattle.realm_subscriptions.specs.declared.subscription.Subscription.{Subscription}
use Rattle.realm_subscriptions.specs.Subscription.{is_kept, with_member}
use Rattle.realm_subscriptions.specs.Subscriptions.{Subscriptions}

abbrev pub id_of : Subscription → ℕ
id_of subscription = subscription.id

abbrev pub pattern_of : Subscription → PatternValue
pattern_of subscription = subscription.pattern

abbrev pub same_id : ℕ → ℕ → Bool
same_id a b = a == b

-- a session is its member twice
abbrev pub has_twice : Subscription → Bool
has_twice subscription = has_two same_id subscription.members

-- no realm has this subscription
abbrev pub is_damaged : Subscription → Bool
is_damaged subscription = not (is_kept subscription) || has_twice subscription

-- ---- step by step

abbrev pub members_of : Subscription → List ℕ
members_of subscription = subscription.members

-- the subscription comes as the last one: first with one member, whom these others join
abbrev pub put_members : Listed Subscription → Subscription → List ℕ → Option (Listed Subscription)
put_members held subscription [] = None
put_members held subscription (first ∷ more) =
    put_group id_of pattern_of members_of with_member held (record subscription { members = first ∷ [] }) more

abbrev pub put_subscription : Listed Subscription → Subscription → Option (Listed Subscription)
put_subscription held subscription = put_members held subscription subscription.members

-- the subscriptions come one after the other
abbrev pub put_subscriptions : Listed Subscription → List Subscription → Option (Listed Subscription)
put_subscriptions held list = put_list put_subscription held list

-- and the ids up to the last one are handed out
abbrev pub put_whole : Listed Subscription → List Subscription → ℕ → Option (Listed Subscription)
put_whole held list last = and_put (put_subscriptions held list) (λ held. ended_at held last)

-- ---- of a whole list

-- the subscriptions of this list with this greatest id, unless no realm has them; under this limit, which a session may be above
abbrev pub subscriptions_of : ℕ → List Subscription → ℕ → Option Subscriptions
subscriptions_of limit list last =
    if are_damaged id_of pattern_of list last || list_any is_damaged list then None
    else Some (record { limit = limit; list = list; last = last })
