use Rattle.std.proofs.Common.{◌≡◌, true, ap, sym, subst}
use Rattle.cluster_world.proofs.Lists.{has_right}
use Rattle.cluster_world.specs.Has.{Has}
use Rattle.paxos_node.specs.Plans.{plans}
use Rattle.actor_tests.proofs.Following.{follows_event, plans_event}
use Rattle.actor_tests.proofs.snapshots.sent_at.Goals as goal

pub advance-requires-clause-follows : goal.advance-requires-clause-follows
advance-requires-clause-follows c =
    let r = c.requires in
    let plans : plans c.args.node.now.me c.args.event.now c.args.node.now.state ≡ true =
    plans_event c.args.mail.now c.args.seat.now c.args.node.now c.args.event.now r.knows r.own r.planned r.may in
    follows_event c.args.mail.now c.args.seat.now c.args.node.now c.in_ok-outcome.outcome c.args.event.now r.knows r.own r.may r.received
    (c.in_ok-outcome.ensures.planned plans).3

pub returns-clause-sent : goal.returns-clause-sent
returns-clause-sent c = λ p h.
    subst (λ l. Has l p) (sym (ap (λ s. s.part.seen.sent) c.in_ok-advance.ensures.moved))
    (has_right c.args.seat.now.part.seen.sent (subst (λ l. Has l p) c.in_ok-packets.ensures.packets h))
