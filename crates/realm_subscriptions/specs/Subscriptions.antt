-- The subscriptions of a realm by ascending id. Ids count from 1 and are never used again (docs/PROTOCOL.md, "The realm").
use Rattle.std.specs.Prelude.{ℕ, nat_lt, Bool, not, ◌||◌, List, [], ◌∷◌, Option, None, Some, length, filter, find, if◌then◌else◌}
use Rattle.wamp_ids.specs.Id.{last_id}
use Rattle.wamp_ids.specs.Pattern.{PatternValue}
use Rattle.realm_subscriptions.specs.declared.subscription.Subscription.{Subscription}
use Rattle.realm_subscriptions.specs.Subscription.{is_on, is_member}

pub record Subscriptions : Type 0 where
  -- a session may be a member of at most this many
  pub limit : ℕ
  pub list : List Subscription
  -- the greatest id that was handed out, 0 before the first
  pub last : ℕ

abbrev pub no_subscriptions : ℕ → Subscriptions
no_subscriptions limit = record { limit = limit; list = []; last = 0 }

abbrev pub with_list : Subscriptions → List Subscription → Subscriptions
with_list subscriptions list = record subscriptions { list = list }

-- the pattern's subscription
abbrev pub subscription_on : Subscriptions → PatternValue → Option Subscription
subscription_on subscriptions pattern = find (is_on pattern) subscriptions.list

-- how many subscriptions a session is a member of
abbrev pub count_of : Subscriptions → ℕ → ℕ
count_of subscriptions session = length (filter (is_member session) subscriptions.list)

-- a session may have no more: it has as many as it may have, or the ids are spent
abbrev pub is_full : Subscriptions → ℕ → Bool
is_full subscriptions session = not (nat_lt (count_of subscriptions session) subscriptions.limit) || not (nat_lt subscriptions.last last_id)

-- in place of the first: what it became, or nothing
abbrev pub put_first : Option Subscription → List Subscription → List Subscription
put_first None rest = rest
put_first (Some changed) rest = changed ∷ rest

-- the first that passes the test becomes what `change` makes of it, or is taken out
abbrev pub change_first : (Subscription → Bool) → (Subscription → Option Subscription) → List Subscription → List Subscription
change_first test change [] = []
change_first test change (first ∷ rest) =
    if test first then put_first (change first) rest else first ∷ change_first test change rest
