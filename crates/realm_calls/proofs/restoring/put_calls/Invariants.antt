use Rattle.std.proofs.Common.{◌≡◌, drop}
use Rattle.realm_sessions.specs.Apart.{put_all}
use Rattle.realm_calls.specs.Restoring.{is_faulty, clash}
use Rattle.realm_calls.proofs.restoring.put_calls.Given as goal

-- the rest, after what is held, gives what all gives
abbrev pub invariant-loop-call : goal.invariant-loop-call
invariant-loop-call l =
    put_all is_faulty clash l.held (drop l.call-index l.calls) ≡ put_all is_faulty clash l.initial.held l.calls
