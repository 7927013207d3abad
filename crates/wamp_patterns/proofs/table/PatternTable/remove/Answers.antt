use Rattle.std.proofs.Common.{◌∙◌, subst, sym}
use Rattle.wamp_ids.specs.declared.policy.Match.TheVariants.{Exact, Prefix, Wildcard}
use Rattle.wamp_patterns.specs.Table.{AreInOrder}
use Rattle.wamp_patterns.proofs.Tables.{asked, removed_gives, removed_ordered}
use Rattle.wamp_patterns.proofs.table.PatternTable.remove.Goals as goal

pub invariant_of-self : goal.invariant_of-self
invariant_of-self g c = (
  removed_ordered c.args.pattern.now c.self.inside.exact.texts c.self.inside.prefix.texts c.self.inside.wildcard.texts
      c.args.self.now c.self.view_is
      Exact c.octets-text.result.now (sym c.in-Exact.is ∙ c.matching.ensures) c.octets-text.ensures.text
      (subst AreInOrder c.self.view_is c.self.invariant.0)
      c.remove.new.self.texts c.remove.ensures.entries,
  c.remove.ensures.tells,
  c.self.invariant.2,
  c.self.invariant.3,
)

pub returns-in-Exact-clause-value : goal.returns-in-Exact-clause-value
returns-in-Exact-clause-value g c =
    c.remove.ensures.value
    ∙ asked c.args.pattern.now c.self.inside.exact.texts c.self.inside.prefix.texts c.self.inside.wildcard.texts
    c.args.self.now c.self.view_is
    Exact c.octets-text.result.now (sym c.in-Exact.is ∙ c.matching.ensures) c.octets-text.ensures.text

pub returns-in-Exact-clause-entries : goal.returns-in-Exact-clause-entries
returns-in-Exact-clause-entries g c =
    removed_gives c.args.pattern.now c.self.inside.exact.texts c.self.inside.prefix.texts c.self.inside.wildcard.texts
    c.args.self.now c.self.view_is
    Exact c.octets-text.result.now (sym c.in-Exact.is ∙ c.matching.ensures) c.octets-text.ensures.text
    c.remove.new.self.texts c.remove.ensures.entries

pub returns-in-Exact-clause-ordered : goal.returns-in-Exact-clause-ordered
returns-in-Exact-clause-ordered g c =
    removed_ordered c.args.pattern.now c.self.inside.exact.texts c.self.inside.prefix.texts c.self.inside.wildcard.texts
    c.args.self.now c.self.view_is
    Exact c.octets-text.result.now (sym c.in-Exact.is ∙ c.matching.ensures) c.octets-text.ensures.text
    (subst AreInOrder c.self.view_is c.self.invariant.0)
    c.remove.new.self.texts c.remove.ensures.entries

pub invariant_of-self-in-Prefix : goal.invariant_of-self-in-Prefix
invariant_of-self-in-Prefix g c = (
  removed_ordered c.args.pattern.now c.self.inside.exact.texts c.self.inside.prefix.texts c.self.inside.wildcard.texts
      c.args.self.now c.self.view_is
      Prefix c.octets-text.result.now (sym c.in-Prefix.is ∙ c.matching.ensures) c.octets-text.ensures.text
      (subst AreInOrder c.self.view_is c.self.invariant.0)
      c.remove-in-Prefix.new.self.texts c.remove-in-Prefix.ensures.entries,
  c.self.invariant.1,
  c.remove-in-Prefix.ensures.tells,
  c.self.invariant.3,
)

pub returns-in-Prefix-clause-value : goal.returns-in-Prefix-clause-value
returns-in-Prefix-clause-value g c =
    c.remove-in-Prefix.ensures.value
    ∙ asked c.args.pattern.now c.self.inside.exact.texts c.self.inside.prefix.texts c.self.inside.wildcard.texts
    c.args.self.now c.self.view_is
    Prefix c.octets-text.result.now (sym c.in-Prefix.is ∙ c.matching.ensures) c.octets-text.ensures.text

pub returns-in-Prefix-clause-entries : goal.returns-in-Prefix-clause-entries
returns-in-Prefix-clause-entries g c =
    removed_gives c.args.pattern.now c.self.inside.exact.texts c.self.inside.prefix.texts c.self.inside.wildcard.texts
    c.args.self.now c.self.view_is
    Prefix c.octets-text.result.now (sym c.in-Prefix.is ∙ c.matching.ensures) c.octets-text.ensures.text
    c.remove-in-Prefix.new.self.texts c.remove-in-Prefix.ensures.entries

pub returns-in-Prefix-clause-ordered : goal.returns-in-Prefix-clause-ordered
returns-in-Prefix-clause-ordered g c =
    removed_ordered c.args.pattern.now c.self.inside.exact.texts c.self.inside.prefix.texts c.self.inside.wildcard.texts
    c.args.self.now c.self.view_is
    Prefix c.octets-text.result.now (sym c.in-Prefix.is ∙ c.matching.ensures) c.octets-text.ensures.text
    (subst AreInOrder c.self.view_is c.self.invariant.0)
    c.remove-in-Prefix.new.self.texts c.remove-in-Prefix.ensures.entries

pub invariant_of-self-in-Wildcard : goal.invariant_of-self-in-Wildcard
invariant_of-self-in-Wildcard g c = (
  removed_ordered c.args.pattern.now c.self.inside.exact.texts c.self.inside.prefix.texts c.self.inside.wildcard.texts
      c.args.self.now c.self.view_is
      Wildcard c.octets-text.result.now (sym c.in-Wildcard.is ∙ c.matching.ensures) c.octets-text.ensures.text
      (subst AreInOrder c.self.view_is c.self.invariant.0)
      c.remove-in-Wildcard.new.self.texts c.remove-in-Wildcard.ensures.entries,
  c.self.invariant.1,
  c.self.invariant.2,
  c.remove-in-Wildcard.ensures.tells,
)

pub returns-in-Wildcard-clause-value : goal.returns-in-Wildcard-clause-value
returns-in-Wildcard-clause-value g c =
    c.remove-in-Wildcard.ensures.value
    ∙ asked c.args.pattern.now c.self.inside.exact.texts c.self.inside.prefix.texts c.self.inside.wildcard.texts
    c.args.self.now c.self.view_is
    Wildcard c.octets-text.result.now (sym c.in-Wildcard.is ∙ c.matching.ensures) c.octets-text.ensures.text

pub returns-in-Wildcard-clause-entries : goal.returns-in-Wildcard-clause-entries
returns-in-Wildcard-clause-entries g c =
    removed_gives c.args.pattern.now c.self.inside.exact.texts c.self.inside.prefix.texts c.self.inside.wildcard.texts
    c.args.self.now c.self.view_is
    Wildcard c.octets-text.result.now (sym c.in-Wildcard.is ∙ c.matching.ensures) c.octets-text.ensures.text
    c.remove-in-Wildcard.new.self.texts c.remove-in-Wildcard.ensures.entries

pub returns-in-Wildcard-clause-ordered : goal.returns-in-Wildcard-clause-ordered
returns-in-Wildcard-clause-ordered g c =
    removed_ordered c.args.pattern.now c.self.inside.exact.texts c.self.inside.prefix.texts c.self.inside.wildcard.texts
    c.args.self.now c.self.view_is
    Wildcard c.octets-text.result.now (sym c.in-Wildcard.is ∙ c.matching.ensures) c.octets-text.ensures.text
    (subst AreInOrder c.self.view_is c.self.invariant.0)
    c.remove-in-Wildcard.new.self.texts c.remove-in-Wildcard.ensures.entries
