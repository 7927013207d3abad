use Rattle.std.proofs.Common.{◌∙◌, ap, sym, subst, rules}
use Rattle.mail_table.specs.Boxes.{Received}
use Rattle.paxos_node.specs.declared.event.Event.TheVariants.{Deliver}
use Rattle.paxos_packets.specs.Members.{IsMember}
use Rattle.actor_tests.proofs.Following.{fetched_one, knows_still}
use Rattle.actor_tests.proofs.snapshots.reply.Goals as goal

pub answers-requires-clause-knows : goal.answers-requires-clause-knows
answers-requires-clause-knows g c =
    let h = c.in-Some.ensures.fetched in
    knows_still c.args.mail.now c.args.two.now c.fetch.new.seat c.args.node.now c.requires.knows c.fetch.ensures.still_owned
    (ap (λ s. s.part.me) h) (ap (λ s. s.part.seen) h)

pub answers-requires-clause-addressed : goal.answers-requires-clause-addressed
answers-requires-clause-addressed g c = c.in-Some.ensures.addressed ∙ sym (ap (λ s. s.part.me) c.in-Some.ensures.fetched)

pub answers-requires-clause-received : goal.answers-requires-clause-received
answers-requires-clause-received g c =
    let first : IsMember c.args.mail.now.members 1 = search rules in
    subst (λ s. Received c.args.mail.now.members s.part (Deliver c.in-Some.asked)) (sym c.in-Some.ensures.fetched)
    (fetched_one c.args.mail.now.members 1 c.in-Some.asked c.args.two.now.part first)
