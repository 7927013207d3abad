use Rattle.std.proofs.Common.{◌≡◌, true, drop, sym, ap, ◌∙◌, subst}
use Rattle.paxos_packets.specs.Body.{IsEquality}
use Rattle.paxos_proposer.specs.Proposer.{is_leading}
use Rattle.paxos_planning.specs.Drafting.{Drafted, Known, listed}
use Rattle.paxos_planning.specs.Node.{Plan, log_length}
use Rattle.paxos_planning.specs.Front.{IsFront}
use Rattle.paxos_planning.specs.Proposals.{propose_each, push}
use Rattle.paxos_planning.proofs.Standing.{front_pushed, pushes_rest}
use Rattle.paxos_planning.proofs.draft.Draft.push.Goals as goal

pub returns-clause-plan : goal.returns-clause-plan
returns-clause-plan g c =
    let k : Known g.row.B.Denot = c.args.self.now.of in
    let t : Plan g.row.B.Denot = c.args.self.now.plan in
    let equality : IsEquality g.B.Body.same = record { reflexive = g.met.B.Body.reflexive; sound = g.met.B.Body.sound } in
    let leads : is_leading t.node.proposer.role ≡ true = sym c.is_leading.ensures ∙ c.if-not-is_leading.false in
    let each : Known g.row.B.Denot → Plan g.row.B.Denot → Plan g.row.B.Denot =
    λ (o : Known g.row.B.Denot) (u : Plan g.row.B.Denot). propose_each g.B.Body.same o.members o.me (listed o.added) u in
    let rest : c.propose_each.new.self.plan ≡ propose_each g.B.Body.same k.members k.me c.behind.result.now t = c.in_ok-propose_each.ensures.plan in
    let added : c.propose_added.new.self.plan ≡ each c.propose_each.new.self.of c.propose_each.new.self.plan = c.in_ok-propose_added.ensures.plan in
    let both : each c.propose_each.new.self.of c.propose_each.new.self.plan ≡ each k (propose_each g.B.Body.same k.members k.me (drop c.args.front k.state.pending) t) =
    (λ i. each (c.in_ok-propose_each.ensures.of i) ((rest ∙ ap (λ es. propose_each g.B.Body.same k.members k.me es t) c.behind.ensures.rest) i)) in
    let whole : each k (propose_each g.B.Body.same k.members k.me (drop c.args.front k.state.pending) t) ≡ push g.B.Body.same k.members k.me t =
    pushes_rest g.B.Body.same k.members k.me c.args.front k.added k.state.pending t c.behind.ensures.pending leads
    (c.requires g.B.Body.same equality leads) in
    added ∙ both ∙ whole

pub returns-clause-front : goal.returns-clause-front
returns-clause-front g c =
    let d : Drafted g.row.B.Denot = c.args.self.now in
    let new : Drafted g.row.B.Denot = c.propose_added.new.self in
    let of : new.of ≡ d.of = c.in_ok-propose_added.ensures.of ∙ c.in_ok-propose_each.ensures.of in
    let plan : new.plan ≡ push g.B.Body.same d.of.members d.of.me d.plan = returns-clause-plan g c in
    let pushed : IsFront c.args.front (log_length (push g.B.Body.same d.of.members d.of.me d.plan).node)
    (push g.B.Body.same d.of.members d.of.me d.plan).node.proposer.role d.of.state.pending =
    front_pushed g.B.Body.same d.of.members d.of.me c.args.front d.of.state.pending d.plan c.requires in
    subst (λ (t : Plan g.row.B.Denot). IsFront c.args.front (log_length t.node) t.node.proposer.role new.of.state.pending) (sym plan)
    (subst (λ (k : Known g.row.B.Denot). IsFront c.args.front (log_length (push g.B.Body.same d.of.members d.of.me d.plan).node)
    (push g.B.Body.same d.of.members d.of.me d.plan).node.proposer.role k.state.pending) (sym of) pushed)
