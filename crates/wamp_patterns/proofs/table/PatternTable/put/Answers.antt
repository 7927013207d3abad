use Rattle.std.proofs.Common.{◌∙◌, subst, sym}
use Rattle.wamp_ids.specs.declared.policy.Match.TheVariants.{Exact, Prefix, Wildcard}
use Rattle.wamp_patterns.specs.Table.{AreInOrder}
use Rattle.wamp_patterns.proofs.Tables.{entries_told, old_told, only_new_told, ordered_told}
use Rattle.wamp_patterns.proofs.table.PatternTable.put.Goals as goal

pub invariant_of-self : goal.invariant_of-self
invariant_of-self g c = (
  ordered_told c.args.pattern.now c.self.inside.exact.texts c.self.inside.prefix.texts c.self.inside.wildcard.texts
      c.args.self.now c.self.view_is
      Exact c.octets-text.result.now (sym c.in-Exact.is ∙ c.matching.ensures) c.octets-text.ensures.text
      c.put.result c.put.new.self.texts c.args.value
      (subst AreInOrder c.self.view_is c.self.invariant.0) c.put.ensures.entries c.put.ensures.unchanged,
  c.put.ensures.tells,
  c.self.invariant.2,
  c.self.invariant.3,
)

pub returns-in-Exact-clause-old : goal.returns-in-Exact-clause-old
returns-in-Exact-clause-old g c =
    old_told c.args.pattern.now c.self.inside.exact.texts c.self.inside.prefix.texts c.self.inside.wildcard.texts
    c.args.self.now c.self.view_is
    Exact c.octets-text.result.now (sym c.in-Exact.is ∙ c.matching.ensures) c.octets-text.ensures.text
    c.put.result c.put.new.self.texts c.args.value c.put.ensures.old

pub returns-in-Exact-clause-entries : goal.returns-in-Exact-clause-entries
returns-in-Exact-clause-entries g c =
    entries_told c.args.pattern.now c.self.inside.exact.texts c.self.inside.prefix.texts c.self.inside.wildcard.texts
    c.args.self.now c.self.view_is
    Exact c.octets-text.result.now (sym c.in-Exact.is ∙ c.matching.ensures) c.octets-text.ensures.text
    c.put.result c.put.new.self.texts c.args.value c.put.ensures.entries

pub returns-in-Exact-clause-only_new : goal.returns-in-Exact-clause-only_new
returns-in-Exact-clause-only_new g c =
    only_new_told c.args.pattern.now c.self.inside.exact.texts c.self.inside.prefix.texts c.self.inside.wildcard.texts
    c.args.self.now c.self.view_is
    Exact c.octets-text.result.now (sym c.in-Exact.is ∙ c.matching.ensures) c.octets-text.ensures.text
    c.put.result c.put.new.self.texts c.args.value c.put.ensures.only_new

pub returns-in-Exact-clause-ordered : goal.returns-in-Exact-clause-ordered
returns-in-Exact-clause-ordered g c =
    ordered_told c.args.pattern.now c.self.inside.exact.texts c.self.inside.prefix.texts c.self.inside.wildcard.texts
    c.args.self.now c.self.view_is
    Exact c.octets-text.result.now (sym c.in-Exact.is ∙ c.matching.ensures) c.octets-text.ensures.text
    c.put.result c.put.new.self.texts c.args.value
    (subst AreInOrder c.self.view_is c.self.invariant.0) c.put.ensures.entries c.put.ensures.unchanged

pub invariant_of-self-in-Prefix : goal.invariant_of-self-in-Prefix
invariant_of-self-in-Prefix g c = (
  ordered_told c.args.pattern.now c.self.inside.exact.texts c.self.inside.prefix.texts c.self.inside.wildcard.texts
      c.args.self.now c.self.view_is
      Prefix c.octets-text.result.now (sym c.in-Prefix.is ∙ c.matching.ensures) c.octets-text.ensures.text
      c.put-in-Prefix.result c.put-in-Prefix.new.self.texts c.args.value
      (subst AreInOrder c.self.view_is c.self.invariant.0) c.put-in-Prefix.ensures.entries c.put-in-Prefix.ensures.unchanged,
  c.self.invariant.1,
  c.put-in-Prefix.ensures.tells,
  c.self.invariant.3,
)

pub returns-in-Prefix-clause-old : goal.returns-in-Prefix-clause-old
returns-in-Prefix-clause-old g c =
    old_told c.args.pattern.now c.self.inside.exact.texts c.self.inside.prefix.texts c.self.inside.wildcard.texts
    c.args.self.now c.self.view_is
    Prefix c.octets-text.result.now (sym c.in-Prefix.is ∙ c.matching.ensures) c.octets-text.ensures.text
    c.put-in-Prefix.result c.put-in-Prefix.new.self.texts c.args.value c.put-in-Prefix.ensures.old

pub returns-in-Prefix-clause-entries : goal.returns-in-Prefix-clause-entries
returns-in-Prefix-clause-entries g c =
    entries_told c.args.pattern.now c.self.inside.exact.texts c.self.inside.prefix.texts c.self.inside.wildcard.texts
    c.args.self.now c.self.view_is
    Prefix c.octets-text.result.now (sym c.in-Prefix.is ∙ c.matching.ensures) c.octets-text.ensures.text
    c.put-in-Prefix.result c.put-in-Prefix.new.self.texts c.args.value c.put-in-Prefix.ensures.entries

pub returns-in-Prefix-clause-only_new : goal.returns-in-Prefix-clause-only_new
returns-in-Prefix-clause-only_new g c =
    only_new_told c.args.pattern.now c.self.inside.exact.texts c.self.inside.prefix.texts c.self.inside.wildcard.texts
    c.args.self.now c.self.view_is
    Prefix c.octets-text.result.now (sym c.in-Prefix.is ∙ c.matching.ensures) c.octets-text.ensures.text
    c.put-in-Prefix.result c.put-in-Prefix.new.self.texts c.args.value c.put-in-Prefix.ensures.only_new

pub returns-in-Prefix-clause-ordered : goal.returns-in-Prefix-clause-ordered
returns-in-Prefix-clause-ordered g c =
    ordered_told c.args.pattern.now c.self.inside.exact.texts c.self.inside.prefix.texts c.self.inside.wildcard.texts
    c.args.self.now c.self.view_is
    Prefix c.octets-text.result.now (sym c.in-Prefix.is ∙ c.matching.ensures) c.octets-text.ensures.text
    c.put-in-Prefix.result c.put-in-Prefix.new.self.texts c.args.value
    (subst AreInOrder c.self.view_is c.self.invariant.0) c.put-in-Prefix.ensures.entries c.put-in-Prefix.ensures.unchanged

pub invariant_of-self-in-Wildcard : goal.invariant_of-self-in-Wildcard
invariant_of-self-in-Wildcard g c = (
  ordered_told c.args.pattern.now c.self.inside.exact.texts c.self.inside.prefix.texts c.self.inside.wildcard.texts
      c.args.self.now c.self.view_is
      Wildcard c.octets-text.result.now (sym c.in-Wildcard.is ∙ c.matching.ensures) c.octets-text.ensures.text
      c.put-in-Wildcard.result c.put-in-Wildcard.new.self.texts c.args.value
      (subst AreInOrder c.self.view_is c.self.invariant.0) c.put-in-Wildcard.ensures.entries c.put-in-Wildcard.ensures.unchanged,
  c.self.invariant.1,
  c.self.invariant.2,
  c.put-in-Wildcard.ensures.tells,
)

pub returns-in-Wildcard-clause-old : goal.returns-in-Wildcard-clause-old
returns-in-Wildcard-clause-old g c =
    old_told c.args.pattern.now c.self.inside.exact.texts c.self.inside.prefix.texts c.self.inside.wildcard.texts
    c.args.self.now c.self.view_is
    Wildcard c.octets-text.result.now (sym c.in-Wildcard.is ∙ c.matching.ensures) c.octets-text.ensures.text
    c.put-in-Wildcard.result c.put-in-Wildcard.new.self.texts c.args.value c.put-in-Wildcard.ensures.old

pub returns-in-Wildcard-clause-entries : goal.returns-in-Wildcard-clause-entries
returns-in-Wildcard-clause-entries g c =
    entries_told c.args.pattern.now c.self.inside.exact.texts c.self.inside.prefix.texts c.self.inside.wildcard.texts
    c.args.self.now c.self.view_is
    Wildcard c.octets-text.result.now (sym c.in-Wildcard.is ∙ c.matching.ensures) c.octets-text.ensures.text
    c.put-in-Wildcard.result c.put-in-Wildcard.new.self.texts c.args.value c.put-in-Wildcard.ensures.entries

pub returns-in-Wildcard-clause-only_new : goal.returns-in-Wildcard-clause-only_new
returns-in-Wildcard-clause-only_new g c =
    only_new_told c.args.pattern.now c.self.inside.exact.texts c.self.inside.prefix.texts c.self.inside.wildcard.texts
    c.args.self.now c.self.view_is
    Wildcard c.octets-text.result.now (sym c.in-Wildcard.is ∙ c.matching.ensures) c.octets-text.ensures.text
    c.put-in-Wildcard.result c.put-in-Wildcard.new.self.texts c.args.value c.put-in-Wildcard.ensures.only_new

pub returns-in-Wildcard-clause-ordered : goal.returns-in-Wildcard-clause-ordered
returns-in-Wildcard-clause-ordered g c =
    ordered_told c.args.pattern.now c.self.inside.exact.texts c.self.inside.prefix.texts c.self.inside.wildcard.texts
    c.args.self.now c.self.view_is
    Wildcard c.octets-text.result.now (sym c.in-Wildcard.is ∙ c.matching.ensures) c.octets-text.ensures.text
    c.put-in-Wildcard.result c.put-in-Wildcard.new.self.texts c.args.value
    (subst AreInOrder c.self.view_is c.self.invariant.0) c.put-in-Wildcard.ensures.entries c.put-in-Wildcard.ensures.unchanged
