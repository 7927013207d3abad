use Rattle.std.proofs.Common.{◌≡◌, ℕ, true, false, subst, Option, Some, None, sym, ◌∙◌, rules}
use Rattle.paxos_packets.specs.declared.entry.Entry.{Entry}
use Rattle.paxos_planning.specs.Node.{NodeState, Plan}
use Rattle.paxos_node.specs.Plans.{Answered}
use Rattle.paxos_node.specs.Events.{has_room, new_lost}
use Rattle.paxos_node.proofs.Answering.{none_answered, lost_answered}
use Rattle.paxos_node.proofs.Making.{none_makes, lost_makes}
use Rattle.paxos_node.proofs.node.Node.plan_suspect.Goals as goal

pub returns-in_default-clause-answered : goal.returns-in_default-clause-answered
returns-in_default-clause-answered g c =
    let me : ℕ = c.args.self.now.me in
    let members : ℕ = c.args.self.now.members in
    let x : NodeState g.row.B.Denot = c.args.self.now.state in
    let none : ◌≡◌ {A = Option (Entry g.row.B.Denot)} None (new_lost g.B.Body.same me c.args.other x) = search rules in
    none_answered g.B.Body.same me members x c.finish.result c.args.other none
    (subst (λ (t : Plan g.row.B.Denot). Answered me members x false false t c.finish.result) c.draft.ensures.plan c.finish.ensures.answered)

pub returns-clause-answered : goal.returns-clause-answered
returns-clause-answered g c =
    let x : NodeState g.row.B.Denot = c.args.self.now.state in
    let some : ◌≡◌ {A = Option (Entry g.row.B.Denot)} (Some c.in-Some.lost) (new_lost g.B.Body.same c.args.self.now.me c.args.other x) = search rules in
    let room : has_room x ≡ true = sym c.has_room.ensures ∙ c.if-not-has_room.false in
    lost_answered g.B.Body.same c.args.self.now.me c.args.self.now.members x c.plan_with.result c.args.other c.in-Some.lost some room c.plan_with.ensures.answered

pub returns-in_default-clause-made : goal.returns-in_default-clause-made
returns-in_default-clause-made g c =
    let x : NodeState g.row.B.Denot = c.args.self.now.state in
    let none : ◌≡◌ {A = Option (Entry g.row.B.Denot)} None (new_lost g.B.Body.same c.args.self.now.me c.args.other x) = search rules in
    none_makes g.B.Body.same c.args.self.now.me x c.finish.result c.args.other none c.finish.ensures.added

pub returns-clause-made : goal.returns-clause-made
returns-clause-made g c =
    let x : NodeState g.row.B.Denot = c.args.self.now.state in
    let some : ◌≡◌ {A = Option (Entry g.row.B.Denot)} (Some c.in-Some.lost) (new_lost g.B.Body.same c.args.self.now.me c.args.other x) = search rules in
    let room : has_room x ≡ true = sym c.has_room.ensures ∙ c.if-not-has_room.false in
    lost_makes g.B.Body.same c.args.self.now.me x c.plan_with.result c.args.other c.in-Some.lost some room c.plan_with.ensures.added
