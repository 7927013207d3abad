use Rattle.std.proofs.Common.{◌≡◌, ◌++◌, drop}
use Rattle.realm_calls.specs.Calls.{calls_by}
use Rattle.realm_calls.proofs.calls.calls_by.Given as goal

-- what is found so far and what the calls that are left give is all of it
abbrev pub invariant-loop-call : goal.invariant-loop-call
invariant-loop-call l = l.found.items ++ calls_by (drop l.call-index l.calls.items) l.session ≡ calls_by l.calls.items l.session
