use Rattle.std.proofs.Common.{◌≡◌, ℕ, sym, ◌∙◌}
use Rattle.std.proofs.lemmas.Result.{on_ok_weaker}
use Rattle.std.specs.Prelude.{OnOk}
use Rattle.paxos_planning.specs.Node.{NodeState, Plan}
use Rattle.paxos_planning.specs.Plan.{begun}
use Rattle.paxos_planning.specs.Ticking.{on_tick}
use Rattle.paxos_node.proofs.Done.{done_plan}
use Rattle.paxos_node.proofs.node.Node.plan_tick.Goals as goal

pub on_tick-done-requires-clause-role : goal.on_tick-done-requires-clause-role
on_tick-done-requires-clause-role g c = (λ i. (c.draft-draft.ensures.plan i).node.proposer.role) ∙ (λ i. (sym c.draft-draft.ensures.of i).state.proposer.role)

pub on_tick-done-requires-clause-learner : goal.on_tick-done-requires-clause-learner
on_tick-done-requires-clause-learner g c = (λ i. (c.draft-draft.ensures.plan i).node.learner) ∙ (λ i. (sym c.draft-draft.ensures.of i).state.learner)

pub finish-requires-clause-of : goal.finish-requires-clause-of
finish-requires-clause-of g c = c.on_tick-done.ensures.of ∙ c.draft-draft.ensures.of

pub returns-clause-answered : goal.returns-clause-answered
returns-clause-answered g c =
    let me : ℕ = c.args.self.now.me in
    let members : ℕ = c.args.self.now.members in
    let x : NodeState g.row.B.Denot = c.args.self.now.state in
    let t : Plan g.row.B.Denot = on_tick g.B.Body.same members me (begun x) in
    let plan : OnOk c.on_tick-done.result (c.on_tick-done.new.self.plan ≡ t) =
    on_ok_weaker c.on_tick-done.result
    (λ p. p ∙ (λ i. on_tick g.B.Body.same (c.draft-draft.ensures.of i).members (c.draft-draft.ensures.of i).me (c.draft-draft.ensures.plan i)))
    c.on_tick-done.ensures.plan in
    done_plan me members x c.on_tick-done.new.self.plan t c.on_tick-done.result c.finish.result plan c.finish.ensures.answered c.finish.ensures.memory
