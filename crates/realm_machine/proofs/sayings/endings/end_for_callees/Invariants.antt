use Rattle.std.proofs.Common.{◌≡◌, ◌++◌, drop}
use Rattle.std.specs.List.{flat_map}
use Rattle.realm_machine.specs.Sayings.Endings.{end_for_callee}
use Rattle.realm_machine.proofs.sayings.endings.end_for_callees.Given as goal

-- what is said so far and what the calls that are left bring is all of it
abbrev pub invariant-loop-call : goal.invariant-loop-call
invariant-loop-call l =
    l.says.items ++ flat_map (end_for_callee l.sessions.list) (drop l.call-index l.ended) ≡ flat_map (end_for_callee l.sessions.list) l.ended
