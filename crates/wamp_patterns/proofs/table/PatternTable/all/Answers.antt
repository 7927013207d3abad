-- The three indexes give all that match, one after the other.
use Rattle.std.proofs.Common.{◌∙◌, ap, map}
use Rattle.std.proofs.lemmas.Result.{IfOk-weaker}
use Rattle.std.specs.Map.{values_of}
use Rattle.wamp_patterns.specs.Ranking.{matching}
use Rattle.wamp_patterns.proofs.Chosen.{all_told}
use Rattle.wamp_patterns.proofs.table.PatternTable.all.Goals as goal

pub returns-clause-found : goal.returns-clause-found
returns-clause-found g c = IfOk-weaker c.with_all-3.result _ _ (λ all h.
    all_told c.self.inside.exact.texts c.self.inside.prefix.texts c.self.inside.wildcard.texts c.uri_octets-text.result.now
    c.self.invariant.0 c.uri_octets-text.ensures.within c.self.inside.exact.kinds c.self.inside.prefix.kinds c.self.inside.wildcard.kinds
    c.self.invariant.1 c.self.invariant.2 c.self.invariant.3
    (map (λ value. value.now) c.new-found.result.items) (map (λ value. value.now) c.in_ok-found.found.items)
    (map (λ value. value.now) c.in_ok-found-2.found.items) (map (λ value. value.now) all.items)
    (ap (map (λ value. value.now)) c.new-found.ensures.items) c.in_ok-found.ensures c.in_ok-found-2.ensures h
    ∙ (λ i. values_of (matching (λ entry. entry.0) (c.self.view_is i) (c.uri_octets-text.ensures.text i))))
    c.with_all-3.ensures
