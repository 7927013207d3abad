use Rattle.std.proofs.Common.{◌≡◌, ◌≤◌, ◌+◌, ◌++◌, drop, length}
use Rattle.wamp_patterns.specs.Kinds.{gaps_from}
use Rattle.wamp_patterns.proofs.kinds.add_gaps.Given as goal

-- what was added, with what the rest gives, is what the whole gives
abbrev pub invariant-loop-octet : goal.invariant-loop-octet
invariant-loop-octet l = record {
  told : l.gaps.items ++ gaps_from l.gap (drop l.octet-index l.text) ≡ l.initial.gaps.items ++ gaps_from 1 l.text;
  room : length l.gaps.items ≤ 1026 + l.octet-index;
}
