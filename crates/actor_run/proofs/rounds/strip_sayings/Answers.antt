use Rattle.std.proofs.Common.{sym, subst, refl, rules}
use Rattle.actor_parts.specs.declared.fault.ActorFault.TheVariants.{LostHere}
use Rattle.actor_run.specs.Answers.{IsQuiet}
use Rattle.actor_run.proofs.rounds.strip_sayings.Goals as goal

pub returns-in-LostHere-clause-quiet : goal.returns-in-LostHere-clause-quiet
returns-in-LostHere-clause-quiet g c =
    subst (λ f. IsQuiet f (LostHere c.new-none.result)) (sym c.in-LostHere.is) (c.new-none.result, c.new-none.ensures.items, refl)

pub returns-in-LostHere-clause-told : goal.returns-in-LostHere-clause-told
returns-in-LostHere-clause-told g c = search rules
