use Rattle.std.proofs.Common.{◌≡◌, drop}
use Rattle.realm_subscriptions.specs.Restoring.{put_subscriptions}
use Rattle.realm_subscriptions.proofs.restoring.put_subscriptions.Given as goal

-- the rest, after those that are there, gives what all give
abbrev pub invariant-loop-parts : goal.invariant-loop-parts
invariant-loop-parts l =
    put_subscriptions l.groups (drop l.parts-index l.list) ≡ put_subscriptions l.initial.groups l.list
