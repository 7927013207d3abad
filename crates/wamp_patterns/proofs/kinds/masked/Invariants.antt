use Rattle.std.proofs.Common.{◌≡◌, ◌≤◌, ◌++◌, drop, length}
use Rattle.wamp_patterns.specs.Kinds.{masked}
use Rattle.wamp_patterns.proofs.kinds.masked.Given as goal

-- what is kept, with what the rest gives, is what the whole gives
abbrev pub invariant-loop-octet : goal.invariant-loop-octet
invariant-loop-octet l = record {
  kept : l.text.items ++ masked l.gaps (drop l.octet-index l.uri) ≡ masked l.fn.gaps l.uri;
  room : length l.text.items ≤ l.octet-index;
}
