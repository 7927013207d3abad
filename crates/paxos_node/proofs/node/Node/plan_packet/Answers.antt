use Rattle.std.proofs.Common.{◌≡◌, ℕ, false, Some, None, ap, sym, ◌∙◌, subst}
use Rattle.std.proofs.lemmas.Result.{on_ok_weaker}
use Rattle.std.specs.Prelude.{OnOk, option_copied}
use Rattle.paxos_packets.specs.declared.packet.Kind.{Kind}
use Rattle.paxos_planning.specs.Drafting.{seeing}
use Rattle.paxos_planning.specs.Node.{NodeState, Plan}
use Rattle.paxos_planning.specs.Plan.{begun}
use Rattle.paxos_planning.specs.Replies.{on_packet, round_in}
use Rattle.paxos_node.specs.Events.{deliver}
use Rattle.paxos_node.specs.Plans.{Answered}
use Rattle.paxos_node.specs.Snapshots.{new_snapshot}
use Rattle.paxos_node.proofs.Answering.{is_drafted, shows_new}
use Rattle.paxos_node.proofs.Done.{done_plan}
use Rattle.paxos_node.proofs.node.Node.plan_packet.Goals as goal

pub plan_snapshot-requires-clause-new : goal.plan_snapshot-requires-clause-new
plan_snapshot-requires-clause-new g c =
    let new : new_snapshot c.args.self.now.me c.args.packet.now.kind c.args.self.now.state ≡ Some c.in-Some.snapshot.now =
    sym c.new_snapshot.ensures ∙ ap option_copied c.in-Some.is in
    (shows_new c.args.self.now.me c.args.self.now.state c.args.packet.now.kind c.in-Some.snapshot.now new).1

pub returns-in-Some-clause-answered : goal.returns-in-Some-clause-answered
returns-in-Some-clause-answered g c =
    let me : ℕ = c.args.self.now.me in
    let members : ℕ = c.args.self.now.members in
    let x : NodeState g.row.B.Denot = c.args.self.now.state in
    let new : new_snapshot me c.args.packet.now.kind x ≡ Some c.in-Some.snapshot.now = sym c.new_snapshot.ensures ∙ ap option_copied c.in-Some.is in
    subst (λ (k : Kind g.row.B.Denot). Answered me members x false false
    (deliver g.B.Body.same members me c.args.packet.now.sender k (seeing (round_in k) (begun x))) c.plan_snapshot.result)
    (sym (shows_new me x c.args.packet.now.kind c.in-Some.snapshot.now new).0) c.plan_snapshot.ensures.answered

pub on_packet-done-requires-clause-role : goal.on_packet-done-requires-clause-role
on_packet-done-requires-clause-role g c = (λ i. (c.draft-draft.ensures.plan i).node.proposer.role) ∙ (λ i. (sym c.draft-draft.ensures.of i).state.proposer.role)

pub on_packet-done-requires-clause-votes : goal.on_packet-done-requires-clause-votes
on_packet-done-requires-clause-votes g c = (λ i. (c.draft-draft.ensures.plan i).change.votes)

pub finish-requires-clause-of : goal.finish-requires-clause-of
finish-requires-clause-of g c = c.on_packet-done.ensures.of ∙ c.draft-draft.ensures.of

pub returns-clause-answered : goal.returns-clause-answered
returns-clause-answered g c =
    let me : ℕ = c.args.self.now.me in
    let members : ℕ = c.args.self.now.members in
    let x : NodeState g.row.B.Denot = c.args.self.now.state in
    let from : ℕ = c.args.packet.now.sender in
    let kind : Kind g.row.B.Denot = c.args.packet.now.kind in
    let t : Plan g.row.B.Denot = on_packet g.B.Body.same members me from kind (seeing (round_in kind) (begun x)) in
    let none : new_snapshot me kind x ≡ None = sym c.new_snapshot.ensures ∙ ap option_copied c.in_default.is in
    let plan : OnOk c.on_packet-done.result (c.on_packet-done.new.self.plan ≡ t) =
    on_ok_weaker c.on_packet-done.result
    (λ p. p
    ∙ (λ i. on_packet g.B.Body.same (c.draft-draft.ensures.of i).members (c.draft-draft.ensures.of i).me from kind
    (seeing (round_in kind) (c.draft-draft.ensures.plan i)))) c.on_packet-done.ensures.plan in
    subst (λ (u : Plan g.row.B.Denot). Answered me members x false false u c.finish.result)
    (is_drafted me x g.B.Body.same members from kind none)
    (done_plan me members x c.on_packet-done.new.self.plan t c.on_packet-done.result c.finish.result plan c.finish.ensures.answered c.finish.ensures.memory)
