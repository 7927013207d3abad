use Rattle.std.proofs.Common.{◌≡◌, ◌∙◌, ap, sym, subst}
use Rattle.cluster_world.proofs.Lists.{has_left, has_right}
use Rattle.cluster_world.specs.Has.{Has}
use Rattle.actor_tests.proofs.Following.{follows}
use Rattle.actor_tests.proofs.posting.stepped.Goals as goal

pub advance-requires-clause-follows : goal.advance-requires-clause-follows
advance-requires-clause-follows c =
    let e = c.in_ok-outcome.ensures in
    follows c.args.mail.now c.args.seat.now c.args.node.now c.in_ok-outcome.outcome c.node.result c.args.starts c.requires c.node.ensures e.up e.start e.tick

pub returns-clause-sent : goal.returns-clause-sent
returns-clause-sent c = λ p h.
    subst (λ l. Has l p) (sym (ap (λ s. s.part.seen.sent) c.in_ok-advance.ensures.moved))
    (has_right c.args.seat.now.part.seen.sent (subst (λ l. Has l p) c.in_ok-packets.ensures.packets h))

pub returns-clause-grows : goal.returns-clause-grows
returns-clause-grows c = λ p h.
    subst (λ l. Has l p) (sym (ap (λ s. s.part.seen.sent) c.in_ok-advance.ensures.moved)) (has_left c.in_ok-outcome.outcome.packets h)
