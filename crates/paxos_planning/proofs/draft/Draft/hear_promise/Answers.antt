use Rattle.std.proofs.Common.{◌≡◌, ap, ◌∙◌, option_copied, rules}
use Rattle.paxos_packets.specs.Snapshot.{floor_in}
use Rattle.paxos_proposer.specs.Promises.{promised, called_by}
use Rattle.paxos_proposer.specs.Proposing as to_do
use Rattle.paxos_proposer.specs.State as proposing
use Rattle.paxos_learner.specs.Hearing as to_hear
use Rattle.paxos_planning.specs.Drafting.{Drafted, in_role}
use Rattle.paxos_planning.specs.Node.{Plan}
use Rattle.paxos_planning.proofs.Staying.{members_stay}
use Rattle.paxos_planning.proofs.Planning.{turn_with}
use Rattle.paxos_planning.proofs.draft.Draft.hear_promise.Goals as goal

pub returns-clause-plan : goal.returns-clause-plan
returns-clause-plan g c =
    let p : proposing.State g.row.B.Denot = to_do.after c.self.inside.proposing in
    let floor = floor_in c.args.self.now.plan.node.rows.snapshot in
    let own_is : c.floor-own.result ≡ floor = c.floor-own.ensures in
    let votes : c.in-Ok.copy ≡ c.args.votes.now = search rules in
    let owned : (to_do.after c.self.inside.proposing).members ≡ c.self.inside.proposing.before.members =
    members_stay c.self.inside.proposing.moves c.self.inside.proposing.before in
    let known : c.self.inside.proposing.before.members ≡ c.self.inside.node.members =
    ap (λ (s : proposing.State g.row.B.Denot). s.members) c.self.invariant.0 in
    let members : p.members ≡ c.self.inside.node.members = owned ∙ known in
    let whole : proposing.State g.row.B.Denot → Plan g.row.B.Denot = λ (s : proposing.State g.row.B.Denot). turn_with c.self.inside.node.state c.self.inside.change
    c.self.inside.packets.items (to_hear.after c.self.inside.hearing).learner (option_copied c.self.inside.added) c.self.inside.disagrees s in
    let counted : proposing.State g.row.B.Denot = proposing.with_role (promised p.members c.args.sender c.args.ballot c.args.floor c.in-Ok.copy c.floor-own.result p.proposer.role) p in
    let own : proposing.State g.row.B.Denot =
    proposing.with_role (promised c.self.inside.node.members c.args.sender c.args.ballot c.args.floor c.args.votes.now floor p.proposer.role) p in
    let first : whole (to_do.after c.on_promise.new.self) ≡ whole counted = ap whole c.in-Ok-on_promise.ensures.after in
    let second : whole counted ≡ whole own =
    (λ i. whole (proposing.with_role (promised (members i) c.args.sender c.args.ballot c.args.floor (votes i) (own_is i) p.proposer.role) p)) in
    first ∙ second
    ∙ ap (λ (d : Drafted g.row.B.Denot). in_role (promised d.of.members c.args.sender c.args.ballot c.args.floor c.args.votes.now floor d.plan.node.proposer.role) d.plan)
    c.self.view_is

pub returns-clause-called : goal.returns-clause-called
returns-clause-called g c =
    let p : proposing.State g.row.B.Denot = to_do.after c.self.inside.proposing in
    let floor = floor_in c.args.self.now.plan.node.rows.snapshot in
    let own_is : c.floor-own.result ≡ floor = c.floor-own.ensures in
    let votes : c.in-Ok.copy ≡ c.args.votes.now = search rules in
    let owned : (to_do.after c.self.inside.proposing).members ≡ c.self.inside.proposing.before.members =
    members_stay c.self.inside.proposing.moves c.self.inside.proposing.before in
    let known : c.self.inside.proposing.before.members ≡ c.self.inside.node.members =
    ap (λ (s : proposing.State g.row.B.Denot). s.members) c.self.invariant.0 in
    let members : p.members ≡ c.self.inside.node.members = owned ∙ known in
    let whose : called_by p.members c.args.sender c.args.ballot c.args.floor c.in-Ok.copy c.floor-own.result p.proposer.role
    ≡ called_by c.self.inside.node.members c.args.sender c.args.ballot c.args.floor c.args.votes.now floor p.proposer.role =
    (λ i. called_by (members i) c.args.sender c.args.ballot c.args.floor (votes i) (own_is i) p.proposer.role) in
    c.in-Ok-on_promise.ensures.called
    ∙ whose
    ∙ ap (λ (d : Drafted g.row.B.Denot). called_by d.of.members c.args.sender c.args.ballot c.args.floor c.args.votes.now floor d.plan.node.proposer.role)
    c.self.view_is
