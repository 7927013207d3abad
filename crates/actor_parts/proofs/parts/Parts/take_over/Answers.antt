use Rattle.std.proofs.Common.{◌++◌, ◌∙◌, refl, rules}
use Rattle.actor_parts.specs.Parts.{IsPrefixOf}
use Rattle.actor_parts.proofs.Carrying.{taken, taken_who, not_followed}
use Rattle.actor_parts.proofs.parts.Parts.take_over.Goals as goal

pub returns-clause-follows : goal.returns-clause-follows
returns-clause-follows g c =
    taken _ _ c.args.outcome c.args.self.now c.adopt-applied.new.self c.apply.new.self c.answer.new.self c.boot-boot.result c.adopt-applied.result
    c.in-Ok.says.items c.adopt-applied.ensures.adopts c.in-Ok.ensures.ok c.adopt-applied.ensures.applied c.boot-boot.ensures c.apply.ensures.rest
    c.apply.ensures.end c.answer.result c.answer.ensures.answers

pub returns-clause-who : goal.returns-clause-who
returns-clause-who g c =
    taken_who c.args.outcome c.args.self.now c.adopt-applied.new.self c.apply.new.self c.answer.new.self c.in-Ok.says.items c.adopt-applied.ensures.adopts
    c.apply.ensures.rest c.answer.result c.answer.ensures.answers

pub returns-in_default-clause-follows : goal.returns-in_default-clause-follows
returns-in_default-clause-follows g c =
    let front : IsPrefixOf c.apply.new.self.log.applied (c.adopt-applied.new.self.log.applied ++ c.adopt-applied.result) = search rules in
    rw c.spoil.ensures (
      refl,
      not_followed _ _ c.args.outcome c.args.self.now c.adopt-applied.new.self c.apply.new.self c.adopt-applied.result c.adopt-applied.ensures.adopts
          c.apply.ensures.rest c.adopt-applied.ensures.applied front,
    )

pub returns-in_default-clause-keeper : goal.returns-in_default-clause-keeper
returns-in_default-clause-keeper g c = rw c.spoil.ensures (c.apply.ensures.rest.keeper ∙ c.adopt-applied.ensures.adopts.keeper)

pub returns-clause-keeper : goal.returns-clause-keeper
returns-clause-keeper g c = c.answer.ensures.keeper ∙ c.apply.ensures.rest.keeper ∙ c.adopt-applied.ensures.adopts.keeper
