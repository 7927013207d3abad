use Rattle.std.proofs.Common.{◌≡◌, ◌++◌, [], map}
use Rattle.std.specs.Map.{keys_of, values_of}
use Rattle.wamp_patterns.specs.Kinds.{all_found}
use Rattle.wamp_patterns.proofs.index.Index.with_all.Given as goal

-- what was appended, with the rest, is what is to be
abbrev pub invariant-loop-value : goal.invariant-loop-value
invariant-loop-value g l =
    map (λ value. value.now) l.found.items ++ map (λ value. value.now) l.value-iterator
    ≡ map (λ value. value.now) l.fn.found.items ++ values_of (all_found l.fn.matching l.fn.self.texts l.fn.uri [] (keys_of l.fn.self.kinds))
