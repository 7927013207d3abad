use Rattle.std.proofs.Common.{◌≡◌, ◌-◌, List, length, take, drop, ap, ◌∙◌, subst, rules}
use Rattle.std.proofs.lemmas.List.{take_rest}
use Rattle.paxos_packets.specs.Body.{IsEquality}
use Rattle.paxos_packets.specs.declared.entry.Entry.{Entry}
use Rattle.paxos_planning.specs.Node.{log_length}
use Rattle.paxos_planning.specs.Drafting.{Drafted}
use Rattle.paxos_planning.specs.Front.{AllStand}
use Rattle.paxos_planning.proofs.Standing.{more_front}
use Rattle.paxos_planning.proofs.draft.Draft.front.Goals as goal

pub returns-clause-front : goal.returns-clause-front
returns-clause-front g c =
    let d : Drafted g.row.B.Denot = c.args.self.now in
    let equality : IsEquality g.B.Body.same = record { reflexive = g.met.B.Body.reflexive; sound = g.met.B.Body.sound } in
    let counted : AllStand g.B.Body.same (log_length d.plan.node) d.plan.node.proposer.role
    (take c.count_standing.result (take (length c.pending-pending.result.now - c.args.from) (drop c.args.from c.pending-pending.result.now))) =
    c.count_standing.ensures.stand in
    let pending : c.pending-pending.result.now ≡ d.of.state.pending = search rules in
    let rest : take (length c.pending-pending.result.now - c.args.from) (drop c.args.from c.pending-pending.result.now) ≡ drop c.args.from d.of.state.pending =
    take_rest c.pending-pending.result.now c.args.from ∙ ap (λ (es : List (Entry g.row.B.Denot)). drop c.args.from es) pending in
    let more : AllStand g.B.Body.same (log_length d.plan.node) d.plan.node.proposer.role (take c.count_standing.result (drop c.args.from d.of.state.pending)) =
    subst (λ (es : List (Entry g.row.B.Denot)). AllStand g.B.Body.same (log_length d.plan.node) d.plan.node.proposer.role
    (take c.count_standing.result es)) rest counted in
    more_front g.B.Body.same equality c.args.from c.count_standing.result (log_length d.plan.node) d.plan.node.proposer.role d.of.state.pending c.requires more
