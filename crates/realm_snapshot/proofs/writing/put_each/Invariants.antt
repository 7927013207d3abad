use Rattle.std.proofs.Common.{◌≡◌, ◌++◌, drop, map}
use Rattle.std.specs.List.{flat_map}
use Rattle.realm_snapshot.specs.Writing.{list_octets}
use Rattle.realm_snapshot.specs.Snapshot.{Backs}
use Rattle.realm_snapshot.proofs.RoundTrip.{Each}
use Rattle.realm_snapshot.proofs.writing.put_each.Given as goal

abbrev pub invariant-loop-group : goal.invariant-loop-group
invariant-loop-group g l =
    (l.out.items ++ flat_map g.G.Puts.octets (map (λ group. group.now) (drop l.group-index l.list))
    ≡ l.fn.out.items ++ list_octets g.G.Puts.octets (map (λ group. group.now) l.list))
    × (Each (λ group. Backs g.G.Puts.reading (g.G.Puts.octets group.now) group.now) (drop l.group-index l.list)
    → Each (λ group. Backs g.G.Puts.reading (g.G.Puts.octets group.now) group.now) l.list)
