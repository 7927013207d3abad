use Rattle.std.proofs.Common.{◌≡◌, []}
use Rattle.std.specs.Map.{keys_of}
use Rattle.wamp_ids.specs.declared.policy.Match.TheVariants.{Wildcard}
use Rattle.wamp_patterns.specs.Kinds.{all_found}
use Rattle.wamp_patterns.specs.Texts.{shown, texts_of}
use Rattle.wamp_patterns.proofs.index.Index.shape_hits.Given as goal

-- what was found, with what the rest gives, is what the whole gives
abbrev pub invariant-loop-kind : goal.invariant-loop-kind
invariant-loop-kind g l =
    all_found Wildcard l.self.texts l.uri (shown l.hits.entries) (keys_of (texts_of l.kind-iterator))
    ≡ all_found Wildcard l.self.texts l.uri [] (keys_of l.self.kinds)
