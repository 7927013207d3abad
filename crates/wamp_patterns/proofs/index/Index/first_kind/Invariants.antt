use Rattle.std.proofs.Common.{◌≡◌}
use Rattle.std.specs.Map.{keys_of}
use Rattle.wamp_patterns.specs.Kinds.{first_found}
use Rattle.wamp_patterns.specs.Texts.{texts_of}
use Rattle.wamp_patterns.proofs.index.Index.first_kind.Given as goal

-- the rest gives what the whole gives
abbrev pub invariant-loop-kind : goal.invariant-loop-kind
invariant-loop-kind g l =
    first_found l.matching l.self.texts l.uri (keys_of (texts_of l.kind-iterator)) ≡ first_found l.matching l.self.texts l.uri (keys_of l.self.kinds)
