use Rattle.std.proofs.Common.{◌≤◌, ◌<◌, ◌^◌, ◌∙◌, ap, refl, subst, rules}
use Rattle.std.specs.Prelude.{Err}
use Rattle.node_actor.specs.Preparing.{anew, worn, worn_first, unread_first}
use Rattle.node_actor.proofs.preparing.find_first.Goals as goal

pub returns-then-events-ge-MOST_EVENTS-clause-err : goal.returns-then-events-ge-MOST_EVENTS-clause-err
returns-then-events-ge-MOST_EVENTS-clause-err g c =
    let high : 2 ^ 62 ≤ c.events.result = search rules in
    worn (worn_first c.requires refl (subst (λ n. 2 ^ 62 ≤ n) c.events.ensures high))

pub returns-in-Ok-clause-ok : goal.returns-in-Ok-clause-ok
returns-in-Ok-clause-ok g c =
    let low : c.events.result < 2 ^ 62 = search rules in
    anew c.requires refl (record {
      stays = record { same_rows = c.load.ensures.same; found = c.load.ensures.found; counted = c.load.ensures.counts };
      held = c.in-Ok.ensures.held;
      right = c.in-Ok.ensures.right;
    }) (subst (λ n. n < 2 ^ 62) c.events.ensures low)

pub returns-in-Err-clause-err : goal.returns-in-Err-clause-err
returns-in-Err-clause-err g c =
    let low : c.events.result < 2 ^ 62 = search rules in
    unread_first c.in-Err.fault c.requires (subst (λ n. n < 2 ^ 62) c.events.ensures low)
    (record { same_rows = c.load.ensures.same; found = c.load.ensures.found; counted = c.load.ensures.counts })
    (λ e. c.load.ensures.store (c.in-Err.is ∙ ap Err e))
    (λ true_to r held e. c.load.ensures.sound true_to r held (c.in-Err.is ∙ ap Err e))
