use Rattle.std.proofs.Common.{◌≡◌, ◌≤◌, ℕ, Some, length, sym, subst, ◌∙◌}
use Rattle.std.proofs.lemmas.Result.{on_ok_weaker}
use Rattle.std.specs.Prelude.{OnOk}
use Rattle.paxos_planning.specs.Node.{NodeState, Plan, log_length}
use Rattle.paxos_planning.specs.Plan.{begun}
use Rattle.paxos_planning.specs.Drafting.{Known, known, with_pending_entry}
use Rattle.paxos_planning.specs.Front.{IsFront}
use Rattle.paxos_planning.specs.Proposals.{push}
use Rattle.paxos_node.proofs.Done.{done_pending}
use Rattle.paxos_node.proofs.node.Node.plan_pending.Goals as goal

pub front-front-requires : goal.front-front-requires
front-front-requires g c =
    let x : NodeState g.row.B.Denot = c.args.self.now.state in
    subst (λ (t : Plan g.row.B.Denot). IsFront c.front.result (log_length t.node) t.node.proposer.role c.draft-draft.result.of.state.pending)
    (sym c.draft-draft.ensures.plan)
    (subst (λ (k : Known g.row.B.Denot). IsFront c.front.result (log_length x) x.proposer.role k.state.pending) (sym c.draft-draft.ensures.of) c.front.ensures)

pub push-done-requires : goal.push-done-requires
push-done-requires g c = c.front-front.ensures.front

pub settle-requires-clause-of : goal.settle-requires-clause-of
settle-requires-clause-of g c =
    let of : c.push-done.new.self.of ≡ known c.args.self.now.me c.args.self.now.members c.args.self.now.state (Some c.args.entry.now) =
    c.push-done.ensures.of ∙ c.draft-draft.ensures.of in
    of ∙ (λ i. known c.args.self.now.me c.args.self.now.members c.args.self.now.state (sym of i).added)

pub settle-requires-clause-front : goal.settle-requires-clause-front
settle-requires-clause-front g c = c.push-done.ensures.front

pub settle-requires-clause-most : goal.settle-requires-clause-most
settle-requires-clause-most g c =
    subst (λ (k : Known g.row.B.Denot). c.front-front.result ≤ length k.state.pending) (sym c.push-done.ensures.of) c.front-front.ensures.most

pub returns : goal.returns
returns g c =
    let me : ℕ = c.args.self.now.me in
    let members : ℕ = c.args.self.now.members in
    let x : NodeState g.row.B.Denot = c.args.self.now.state in
    let t : Plan g.row.B.Denot = push g.B.Body.same members me (begun (with_pending_entry (Some c.args.entry.now) x)) in
    let of : c.push-done.new.self.of ≡ known me members x (Some c.args.entry.now) = c.push-done.ensures.of ∙ c.draft-draft.ensures.of in
    let plan : OnOk c.push-done.result (c.push-done.new.self.plan ≡ t) =
    on_ok_weaker c.push-done.result
    (λ p. p ∙ (λ i. push g.B.Body.same (c.draft-draft.ensures.of i).members (c.draft-draft.ensures.of i).me (c.draft-draft.ensures.plan i)))
    c.push-done.ensures.plan in
    done_pending me members x c.push-done.new.self (Some c.args.entry.now) t c.push-done.result c.settle.result of plan c.settle.ensures.settled c.settle.ensures.memory
