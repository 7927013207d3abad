use Rattle.std.proofs.Common.{◌≡◌, ℕ, suc, true, sym, ◌∙◌}
use Rattle.std.proofs.lemmas.Result.{on_ok_weaker}
use Rattle.std.specs.Prelude.{OnOk}
use Rattle.paxos_planning.specs.Node.{NodeState, Plan, log_length}
use Rattle.paxos_planning.specs.Plan.{begun}
use Rattle.paxos_proposer.specs.Proposer.{new_ballot}
use Rattle.paxos_planning.specs.Drafting.{Known}
use Rattle.paxos_planning.specs.Starting.{begin, starts}
use Rattle.paxos_node.proofs.Answering.{start_answered}
use Rattle.paxos_node.proofs.Done.{done_plan}
use Rattle.paxos_node.proofs.node.Node.plan_start.Goals as goal

pub start-done-requires-clause-votes : goal.start-done-requires-clause-votes
start-done-requires-clause-votes g c = (λ i. (c.draft-draft.ensures.plan i).change.votes)

pub start-done-requires-clause-starts : goal.start-done-requires-clause-starts
start-done-requires-clause-starts g c = sym c.starts.ensures ∙ c.if-not-starts.false

pub finish-requires-clause-of : goal.finish-requires-clause-of
finish-requires-clause-of g c = c.start-done.ensures.of ∙ c.draft-draft.ensures.of

pub returns-clause-answered : goal.returns-clause-answered
returns-clause-answered g c =
    let me : ℕ = c.args.self.now.me in
    let members : ℕ = c.args.self.now.members in
    let x : NodeState g.row.B.Denot = c.args.self.now.state in
    let begins : Known g.row.B.Denot → Plan g.row.B.Denot → Plan g.row.B.Denot = λ (k : Known g.row.B.Denot) (t : Plan g.row.B.Denot). begin k.members k.me
    (new_ballot k.me t.node.rows.promised t.node.proposer) (suc (log_length t.node)) t in
    let t : Plan g.row.B.Denot = begin members me (new_ballot me x.rows.promised x.proposer) (suc (log_length x)) (begun x) in
    let plan : OnOk c.start-done.result (c.start-done.new.self.plan ≡ t) =
    on_ok_weaker c.start-done.result (λ p. p ∙ (λ i. begins (c.draft-draft.ensures.of i) (c.draft-draft.ensures.plan i))) c.start-done.ensures.plan in
    let left : starts me x ≡ true =
    (λ i. starts (sym c.draft-draft.ensures.of i).me (sym c.draft-draft.ensures.plan i).node) ∙ sym c.starts.ensures ∙ c.if-not-starts.false in
    start_answered g.B.Body.same me members x c.finish.result left
    (done_plan me members x c.start-done.new.self.plan t c.start-done.result c.finish.result plan c.finish.ensures.answered c.finish.ensures.memory)
