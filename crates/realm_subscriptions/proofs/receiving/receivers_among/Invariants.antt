use Rattle.std.proofs.Common.{◌≡◌, ◌++◌, drop, map}
use Rattle.std.specs.List.{flat_map}
use Rattle.realm_subscriptions.proofs.receiving.receivers_among.Given as goal

-- what is found so far and the receivers of the groups that are left are all of them
abbrev pub invariant-loop-group : goal.invariant-loop-group
invariant-loop-group g l =
    l.found.items ++ flat_map (g.G.Receiving.receivers l.except) (map (λ group. group.now) (drop l.group-index l.list))
    ≡ flat_map (g.G.Receiving.receivers l.except) (map (λ group. group.now) l.list)
