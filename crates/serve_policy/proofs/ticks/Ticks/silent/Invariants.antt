-- The nodes that are left give what all of them give.
use Rattle.std.proofs.Common.{◌≡◌, drop}
use Rattle.std.specs.List.{find}
use Rattle.serve_policy.specs.Ticks.{silent_peer, is_silent}
use Rattle.serve_policy.proofs.ticks.Ticks.silent.Given as goal

abbrev pub invariant-loop-peer : goal.invariant-loop-peer
invariant-loop-peer l = find (is_silent l.self) (drop l.peer-index l.peer-items) ≡ silent_peer l.self
