-- Laws of subscriptions: what each change keeps.
use Rattle.std.specs.Prelude.{◌≢◌, ℕ, ◌<◌, ◌≤◌, All, AllPairs, length}
use Rattle.wamp_ids.specs.Id.{last_id}
use Rattle.wamp_ids.specs.Pattern.{PatternValue}
use Rattle.realm_subscriptions.specs.declared.subscription.Subscription.{Subscription}
use Rattle.realm_subscriptions.specs.Subscriptions.{Subscriptions, no_subscriptions}
use Rattle.realm_subscriptions.specs.Subscribing.{subscribe}
use Rattle.realm_subscriptions.specs.Leaving.{unsubscribe, leave}

pub record IsSoundSubscription (subscription : Subscription) : Type 0 where
  -- each member is in it once
  pub members : AllPairs (λ (a b : ℕ). a ≢ b) subscription.members
  -- it has one
  pub held : 0 < length subscription.members

pub record AreSoundSubscriptions (subscriptions : Subscriptions) : Type 0 where
  -- ids rise
  pub ids : AllPairs (λ (a b : Subscription). a.id < b.id) subscriptions.list
  -- none is above the last one that was handed out, and that is an id
  pub handed_out : All (λ (subscription : Subscription). subscription.id ≤ subscriptions.last) subscriptions.list
  pub last : subscriptions.last ≤ last_id
  -- each text and match has one subscription
  pub one_each : AllPairs (λ (a b : Subscription). a.pattern ≢ b.pattern) subscriptions.list
  pub each : All IsSoundSubscription subscriptions.list

abbrev pub NoneAreSound : Type 0
NoneAreSound = (limit : ℕ) → AreSoundSubscriptions (no_subscriptions limit)

abbrev pub SubscribeKeepsSound : Type 0
SubscribeKeepsSound = (subscriptions : Subscriptions) (session : ℕ) (pattern : PatternValue) → AreSoundSubscriptions subscriptions
    → AreSoundSubscriptions (subscribe subscriptions session pattern).subscriptions

abbrev pub UnsubscribeKeepsSound : Type 0
UnsubscribeKeepsSound = (subscriptions : Subscriptions) (session id : ℕ) → AreSoundSubscriptions subscriptions
    → AreSoundSubscriptions (unsubscribe subscriptions session id)

abbrev pub LeaveKeepsSound : Type 0
LeaveKeepsSound = (subscriptions : Subscriptions) (session : ℕ) → AreSoundSubscriptions subscriptions
    → AreSoundSubscriptions (leave subscriptions session)
