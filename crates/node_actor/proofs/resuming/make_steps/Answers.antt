use Rattle.std.proofs.Common.{◌≡◌, Some, sym, subst, rules}
use Rattle.actor_parts.specs.declared.tried.FailedCommit.TheVariants.{One, Round}
use Rattle.node_actor.specs.Posts.{AreSteps}
use Rattle.node_actor.proofs.resuming.make_steps.Goals as goal

pub advance-requires-clause-follows : goal.advance-requires-clause-follows
advance-requires-clause-follows g c =
    let is : c.args.failed.now ≡ Some (One c.in-Some-One.outcome) = search rules in
    c.requires.may (One c.in-Some-One.outcome) is

pub step_all-requires-clause-may : goal.step_all-requires-clause-may
step_all-requires-clause-may g c =
    let is : c.args.failed.now ≡ Some (Round c.in-Some-Round.field-0-0 c.in-Some-Round.tried) = search rules in
    subst (λ ts. AreSteps g.B.Body.same c.args.seat.now.members ts c.args.seat.now.part) (sym c.as_slice.ensures)
    (subst (λ n. AreSteps g.B.Body.same n c.in-Some-Round.tried c.args.seat.now.part) (sym c.requires.owned.2)
    (c.requires.may (Round c.in-Some-Round.field-0-0 c.in-Some-Round.tried) is))
