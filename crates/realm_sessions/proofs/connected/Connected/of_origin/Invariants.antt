use Rattle.std.proofs.Common.{◌≡◌, ◌++◌}
use Rattle.realm_lists.specs.OrderedList.{members}
use Rattle.realm_sessions.specs.Links.{of_origin}
use Rattle.realm_sessions.proofs.connected.Connected.of_origin.Given as goal

-- what is found so far and what the links that are left give is all of it
abbrev pub invariant-loop-place : goal.invariant-loop-place
invariant-loop-place l = l.found.items ++ of_origin (members l._place-iterator) l.node ≡ of_origin l.self l.node
