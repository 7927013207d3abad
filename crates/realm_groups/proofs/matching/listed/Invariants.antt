use Rattle.std.proofs.Common.{◌≡◌, ◌++◌, map}
use Rattle.realm_lists.specs.OrderedList.{members}
use Rattle.realm_groups.proofs.matching.listed.Given as goal

-- what was appended, with the rest, is what is to be
abbrev pub invariant-loop-group : goal.invariant-loop-group
invariant-loop-group g l =
    map (λ group. group.now) l.list.items ++ l.group-iterator ≡ members l.rows.entries
