use Rattle.std.proofs.Common.{◌≡◌, ◌++◌, drop, map}
use Rattle.realm_calls.specs.declared.calls.Open.{Open}
use Rattle.realm_calls.proofs.calls.invocations_of.Given as goal

-- what is found so far and what the calls that are left give is all of it
abbrev pub invariant-loop-call : goal.invariant-loop-call
invariant-loop-call l =
    l.found.items ++ map (λ (call : Open). call.invocation) (drop l.call-index l.calls.items)
    ≡ map (λ (call : Open). call.invocation) l.calls.items
