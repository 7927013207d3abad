use Rattle.std.proofs.Common.{◌≡◌, []}
use Rattle.std.specs.Map.{keys_of}
use Rattle.wamp_patterns.specs.Kinds.{all_found}
use Rattle.wamp_patterns.specs.Texts.{shown, texts_of}
use Rattle.wamp_patterns.proofs.index.Index.kind_hits.Given as goal

-- what was found, with what the rest gives, is what the whole gives
abbrev pub invariant-loop-kind : goal.invariant-loop-kind
invariant-loop-kind g l =
    all_found l.matching l.self.texts l.uri (shown l.hits.entries) (keys_of (texts_of l.kind-iterator))
    ≡ all_found l.matching l.self.texts l.uri [] (keys_of l.self.kinds)
