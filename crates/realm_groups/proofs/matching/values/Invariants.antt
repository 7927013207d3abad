use Rattle.std.proofs.Common.{◌≡◌, ◌++◌, map}
use Rattle.std.specs.Map.{values_of}
use Rattle.realm_groups.specs.Groups.{shown}
use Rattle.realm_groups.proofs.matching.values.Given as goal

-- what was appended, with the rest, is what is to be
abbrev pub invariant-loop-group : goal.invariant-loop-group
invariant-loop-group g l =
    map (λ group. group.now) l.list.items ++ map (λ group. group.now) l.group-iterator ≡ values_of (shown l.found.entries)
