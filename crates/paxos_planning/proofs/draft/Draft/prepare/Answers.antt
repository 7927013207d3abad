use Rattle.std.proofs.Common.{◌≡◌, ap, ◌∙◌, option_copied}
use Rattle.paxos_proposer.specs.Proposer.{prepared, own_ballot}
use Rattle.paxos_proposer.specs.Proposing as to_do
use Rattle.paxos_proposer.specs.State as proposing
use Rattle.paxos_learner.specs.Hearing as to_hear
use Rattle.paxos_planning.specs.Node.{Plan}
use Rattle.paxos_planning.specs.Drafting.{Drafted, with_prepared}
use Rattle.paxos_planning.proofs.Staying.{me_stays}
use Rattle.paxos_planning.proofs.Planning.{turn_with}
use Rattle.paxos_planning.proofs.draft.Draft.prepare.Goals as goal

pub returns-clause-plan : goal.returns-clause-plan
returns-clause-plan g c =
    let p : proposing.State g.row.B.Denot = to_do.after c.self.inside.proposing in
    let me : p.me ≡ c.self.inside.node.me =
    me_stays c.self.inside.proposing.moves c.self.inside.proposing.before
    ∙ ap (λ (s : proposing.State g.row.B.Denot). s.me) c.self.invariant.0 in
    let whole : proposing.State g.row.B.Denot → Plan g.row.B.Denot = λ (s : proposing.State g.row.B.Denot). turn_with c.self.inside.node.state
    c.self.inside.change c.self.inside.packets.items (to_hear.after c.self.inside.hearing).learner (option_copied c.self.inside.added)
    c.self.inside.disagrees s in
    ap whole c.in-Ok.ensures.after
    ∙ (λ i. whole (record {
      me = p.me;
      members = p.members;
      proposer = prepared (me i) (own_ballot (me i) p.proposer) c.args.first c.args.floor c.args.votes p.proposer;
    }))
    ∙ ap (λ (d : Drafted g.row.B.Denot). with_prepared d.of.me c.args.first c.args.floor c.args.votes d.plan) c.self.view_is
