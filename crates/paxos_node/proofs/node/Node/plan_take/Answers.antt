use Rattle.std.proofs.Common.{◌≡◌, ◌<◌, ◌+◌, suc, true, sym, ◌∙◌, arith, rules}
use Rattle.paxos_packets.specs.declared.entry.Entry.TheVariants.{Item}
use Rattle.paxos_planning.specs.Node.{NodeState}
use Rattle.paxos_node.specs.Events.{takes}
use Rattle.paxos_node.proofs.Answering.{take_answered, takes_below}
use Rattle.paxos_node.proofs.Making.{take_makes}
use Rattle.paxos_node.proofs.node.Node.plan_take.Goals as goal

pub overflow_add-taken : goal.overflow_add-taken
overflow_add-taken g c =
    let left : takes c.args.self.now.state ≡ true = sym c.takes.ensures ∙ c.if-not-takes.false in
    let below : c.args.self.now.state.taken < 281474976710655 = takes_below c.args.self.now.state left in
    let taken : c.taken.result ≡ c.args.self.now.state.taken = c.taken.ensures in
    omega arith

pub returns-clause-answered : goal.returns-clause-answered
returns-clause-answered g c =
    let x : NodeState g.row.B.Denot = c.args.self.now.state in
    let left : takes x ≡ true = sym c.takes.ensures ∙ c.if-not-takes.false in
    let taken : c.taken.result ≡ x.taken = c.taken.ensures in
    let number : c.taken.result + 1 ≡ suc x.taken = omega arith in
    let copy : c.in-Ok.copy ≡ c.args.body.now = search rules in
    take_answered g.B.Body.same c.args.self.now.me c.args.self.now.members x c.plan_with.result c.args.transport c.args.body.now
    (Item c.me.result c.boot.result (c.taken.result + 1) c.args.transport c.in-Ok.copy) left
    (λ i. Item (c.me.ensures i) (c.boot.ensures i) (number i) c.args.transport (copy i)) c.plan_with.ensures.answered

pub returns-clause-made : goal.returns-clause-made
returns-clause-made g c =
    let x : NodeState g.row.B.Denot = c.args.self.now.state in
    let left : takes x ≡ true = sym c.takes.ensures ∙ c.if-not-takes.false in
    let taken : c.taken.result ≡ x.taken = c.taken.ensures in
    let number : c.taken.result + 1 ≡ suc x.taken = omega arith in
    let copy : c.in-Ok.copy ≡ c.args.body.now = search rules in
    take_makes g.B.Body.same c.args.self.now.me x c.plan_with.result c.args.transport c.args.body.now
    (Item c.me.result c.boot.result (c.taken.result + 1) c.args.transport c.in-Ok.copy) left
    (λ i. Item (c.me.ensures i) (c.boot.ensures i) (number i) c.args.transport (copy i)) c.plan_with.ensures.added
