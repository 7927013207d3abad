use Rattle.std.proofs.Common.{◌≡◌, ◌++◌, drop, map, filter}
use Rattle.realm_subscriptions.specs.Receiving.{is_for, receiver}
use Rattle.realm_subscriptions.proofs.receiving.add_members.Given as goal

-- what is found so far and the receivers among the members that are left are all of them
abbrev pub invariant-loop-member : goal.invariant-loop-member
invariant-loop-member l =
    l.found.items ++ map (receiver l.subscription) (filter (is_for l.except) (drop l.member-index l.members))
    ≡ l.initial.found.items ++ map (receiver l.subscription) (filter (is_for l.except) l.members)
