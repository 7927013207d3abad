-- The first index that gives a value gives the one that serves.
use Rattle.std.proofs.Common.{◌∙◌, sym}
use Rattle.wamp_patterns.proofs.Chosen.{by_exact, by_last, by_prefix}
use Rattle.wamp_patterns.proofs.table.PatternTable.best.Goals as goal

pub returns-in-Some : goal.returns-in-Some
returns-in-Some g c = rw (← c.self.view_is, ← c.uri_octets-text.ensures.text)
    (sym (by_exact c.self.inside.exact.texts c.self.inside.prefix.texts c.self.inside.wildcard.texts c.uri_octets-text.result.now
    c.self.invariant.0 c.uri_octets-text.ensures.within c.uri_octets-text.ensures.named c.self.inside.exact.kinds c.self.invariant.1
    c.in-Some.ensures.ordered c.in-Some.value.now (sym c.in-Some.ensures.found)))

pub returns-in-Some-first : goal.returns-in-Some-first
returns-in-Some-first g c = rw (← c.self.view_is, ← c.uri_octets-text.ensures.text)
    (sym (by_prefix c.self.inside.exact.texts c.self.inside.prefix.texts c.self.inside.wildcard.texts c.uri_octets-text.result.now
    c.self.invariant.0 c.uri_octets-text.ensures.within c.uri_octets-text.ensures.named c.self.inside.exact.kinds c.self.invariant.1
    c.self.inside.prefix.kinds c.self.invariant.2 (sym c.in_default.ensures.found)
    c.in-Some-first.ensures.ordered c.in-Some-first.value.now (sym c.in-Some-first.ensures.found)))

pub returns : goal.returns
returns g c = rw (← c.self.view_is, ← c.uri_octets-text.ensures.text)
    (c.first-3.ensures.found
    ∙ by_last c.self.inside.exact.texts c.self.inside.prefix.texts c.self.inside.wildcard.texts c.uri_octets-text.result.now
    c.self.invariant.0 c.uri_octets-text.ensures.within c.uri_octets-text.ensures.named c.self.inside.exact.kinds c.self.invariant.1
    c.self.inside.prefix.kinds c.self.invariant.2 (sym c.in_default.ensures.found)
    c.self.inside.wildcard.kinds c.self.invariant.3 (sym c.in_default-first.ensures.found) c.first-3.ensures.ordered)
