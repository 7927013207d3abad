use Rattle.realm_subscriptions.proofs.Sound.{nothing_sound, subscribe_sound, unsubscribe_sound, leave_sound}
use Rattle.realm_subscriptions.proofs.laws.subscriptions_are_sound.Goals as goal

pub returns : goal.returns
returns c = record {
  none = nothing_sound;
  subscribe = subscribe_sound;
  unsubscribe = unsubscribe_sound;
  leave = leave_sound;
}
