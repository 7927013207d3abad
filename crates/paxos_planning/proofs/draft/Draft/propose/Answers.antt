use Rattle.std.proofs.Common.{◌≡◌, ℕ, Option, Some, sym, ◌∙◌, rules}
use Rattle.paxos_packets.specs.declared.entry.Entry.{Entry}
use Rattle.paxos_packets.specs.declared.packet.Kind.TheVariants.{Accept}
use Rattle.paxos_packets.specs.Packet.{to_others}
use Rattle.paxos_proposer.specs.declared.proposing.Offer.{Offer}
use Rattle.paxos_proposer.specs.Proposing.{offer_of}
use Rattle.paxos_planning.specs.Node.{Plan}
use Rattle.paxos_planning.specs.Plan.{send, cast}
use Rattle.paxos_planning.proofs.Planning.{proposes_one}
use Rattle.paxos_planning.proofs.draft.Draft.propose.Goals as goal

pub returns-clause-plan : goal.returns-clause-plan
returns-clause-plan g c =
    let f : Offer = c.in-Some.offer in
    let copy : c.in-Ok.copy ≡ c.args.entry.now = search rules in
    let offers : ◌≡◌ {A = Option Offer} (offer_of c.args.self.now.plan.node.proposer.role) (Some f) = search rules in
    let asked : ℕ → ℕ → Entry g.row.B.Denot → Plan g.row.B.Denot → Plan g.row.B.Denot =
    λ members me e o. cast g.B.Body.same members me (record { slot = f.slot; ballot = f.ballot; entry = e })
    (send (to_others members me (Accept (record { slot = f.slot; ballot = f.ballot; entry = e }))) o) in
    c.in_ok-propose_vote.ensures.plan
    ∙ (λ i. asked (c.in_ok-submit.ensures.of i).members (c.in_ok-submit.ensures.of i).me (copy i) (c.in_ok-submit.ensures.plan i))
    ∙ sym (proposes_one g.B.Body.same c.args.self.now.of.members c.args.self.now.of.me c.args.entry.now c.args.self.now.plan.node.proposer.role
    c.args.self.now.plan f offers)
