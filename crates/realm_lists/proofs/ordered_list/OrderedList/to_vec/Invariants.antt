use Rattle.std.proofs.Common.{◌≡◌, ◌++◌}
use Rattle.realm_lists.specs.OrderedList.{members}
use Rattle.realm_lists.proofs.ordered_list.OrderedList.to_vec.Given as goal

-- what is listed so far and the members that are left are all
abbrev pub invariant-loop-member : goal.invariant-loop-member
invariant-loop-member g l = l.list.items ++ l.member-iterator ≡ members l.self
