use Rattle.std.proofs.Common.{◌∙◌, sym}
use Rattle.wamp_ids.specs.declared.policy.Match.TheVariants.{Exact, Prefix, Wildcard}
use Rattle.wamp_patterns.proofs.Tables.{asked}
use Rattle.wamp_patterns.proofs.table.PatternTable.get.Goals as goal

pub returns-in-Exact-clause-value : goal.returns-in-Exact-clause-value
returns-in-Exact-clause-value g c =
    c.get.ensures
    ∙ asked c.args.pattern.now c.self.inside.exact.texts c.self.inside.prefix.texts c.self.inside.wildcard.texts c.args.self.now c.self.view_is
    Exact c.octets-text.result.now (sym c.in-Exact.is ∙ c.matching.ensures) c.octets-text.ensures.text

pub returns-in-Prefix-clause-value : goal.returns-in-Prefix-clause-value
returns-in-Prefix-clause-value g c =
    c.get-in-Prefix.ensures
    ∙ asked c.args.pattern.now c.self.inside.exact.texts c.self.inside.prefix.texts c.self.inside.wildcard.texts c.args.self.now c.self.view_is
    Prefix c.octets-text.result.now (sym c.in-Prefix.is ∙ c.matching.ensures) c.octets-text.ensures.text

pub returns-in-Wildcard-clause-value : goal.returns-in-Wildcard-clause-value
returns-in-Wildcard-clause-value g c =
    c.get-in-Wildcard.ensures
    ∙ asked c.args.pattern.now c.self.inside.exact.texts c.self.inside.prefix.texts c.self.inside.wildcard.texts c.args.self.now c.self.view_is
    Wildcard c.octets-text.result.now (sym c.in-Wildcard.is ∙ c.matching.ensures) c.octets-text.ensures.text
