use Rattle.std.proofs.Common.{◌≡◌, drop}
use Rattle.realm_calls.specs.Indexed.{end_all}
use Rattle.realm_calls.proofs.open_calls.OpenCalls.end_all.Given as goal

-- the calls that are left still end
abbrev pub invariant-loop-call : goal.invariant-loop-call
invariant-loop-call l = end_all l.self (drop l.call-index l.ended) ≡ end_all l.initial.self l.ended
