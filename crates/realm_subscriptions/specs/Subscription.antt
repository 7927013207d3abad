-- One subscription: a pattern, with the sessions that are its members in the order of joining (WAMP specification, "Pattern-based
-- Subscriptions").
use Rattle.std.specs.Prelude.{ℕ, ◌==◌, Bool, ◌&&◌}
use Rattle.wamp_ids.specs.Pattern.{PatternValue}
use Rattle.wamp_patterns.specs.Table.{same_pattern}
use Rattle.realm_sessions.specs.Members.{has_member, has_members, joined, others}
use Rattle.realm_subscriptions.specs.declared.subscription.Subscription.{Subscription}

-- it has the pattern's text and match
abbrev pub is_on : PatternValue → Subscription → Bool
is_on pattern subscription = same_pattern subscription.pattern pattern

abbrev pub is_member : ℕ → Subscription → Bool
is_member session subscription = has_member session subscription.members

-- it has this id, and the session is a member
abbrev pub is_held : ℕ → ℕ → Subscription → Bool
is_held session id subscription = subscription.id == id && is_member session subscription

-- it has members
abbrev pub is_kept : Subscription → Bool
is_kept subscription = has_members subscription.members

-- the session is the last member now
abbrev pub with_member : ℕ → Subscription → Subscription
with_member session subscription = record subscription { members = joined session subscription.members }

-- the session is no member any more
abbrev pub without_member : ℕ → Subscription → Subscription
without_member session subscription = record subscription { members = others session subscription.members }
