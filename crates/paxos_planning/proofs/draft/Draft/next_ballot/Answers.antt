use Rattle.std.proofs.Common.{◌≡◌, ap, ◌∙◌}
use Rattle.paxos_proposer.specs.Proposing as to_do
use Rattle.paxos_proposer.specs.State as proposing
use Rattle.paxos_planning.specs.Drafting.{Drafted, next_own}
use Rattle.paxos_planning.proofs.Staying.{me_stays}
use Rattle.paxos_planning.proofs.Rounds.{next_is}
use Rattle.paxos_planning.proofs.draft.Draft.next_ballot.Goals as goal

pub returns-in-Ok : goal.returns-in-Ok
returns-in-Ok g c =
    let p : proposing.State g.row.B.Denot = to_do.after c.self.inside.proposing in
    let me : p.me ≡ c.self.inside.node.me =
    me_stays c.self.inside.proposing.moves c.self.inside.proposing.before
    ∙ ap (λ (s : proposing.State g.row.B.Denot). s.me) c.self.invariant.0 in
    next_is p.me p.proposer c.in-Ok.ballot c.in-Ok.ensures.ok c.in-Ok.ensures.rounds.1
    ∙ (λ i. next_own (me i) p.proposer)
    ∙ ap (λ (d : Drafted g.row.B.Denot). next_own d.of.me d.plan.node.proposer) c.self.view_is
