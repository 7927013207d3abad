use Rattle.std.proofs.Common.{None, Some}
use Rattle.paxos_packets.specs.Body.{IsEquality}
use Rattle.paxos_proposer.proofs.Listing.{not_standing}
use Rattle.paxos_proposer.proofs.proposals.Proposals.stands.Goals as goal

pub returns-in_default : goal.returns-in_default
returns-in_default g c =
    let equality : IsEquality g.B.Body.same = record { reflexive = g.met.B.Body.reflexive; sound = g.met.B.Body.sound } in
    rw (← c.self.view_is) (not_standing g.B.Body.same equality c.args.applied c.args.entry.now c.self.inside.latest.entries c.self.inside.list.items
    c.of-identity.result None c.self.invariant c.of-identity.ensures c.in_default.ensures.value tt)

pub returns-then-latest-applied : goal.returns-then-latest-applied
returns-then-latest-applied g c =
    let equality : IsEquality g.B.Body.same = record { reflexive = g.met.B.Body.reflexive; sound = g.met.B.Body.sound } in
    rw (← c.self.view_is) (not_standing g.B.Body.same equality c.args.applied c.args.entry.now c.self.inside.latest.entries c.self.inside.list.items
    c.of-identity.result (Some c.in-Some.latest.now) c.self.invariant c.of-identity.ensures c.in-Some.ensures.value c.if-latest-applied.true)
