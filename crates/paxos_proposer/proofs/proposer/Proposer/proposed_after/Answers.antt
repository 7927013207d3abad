use Rattle.std.proofs.Common.{subst, rules}
use Rattle.paxos_proposer.specs.Proposals.{AreInSlots, ProposesInTurn}
use Rattle.paxos_proposer.specs.Proposing.{proposals_of}
use Rattle.paxos_proposer.specs.State.{Held, role_in}
use Rattle.paxos_proposer.proofs.InTurn.{in_role, turn_in_role}
use Rattle.paxos_proposer.proofs.proposer.Proposer.proposed_after.Goals as goal

pub returns-in-Leading-clause-slots : goal.returns-in-Leading-clause-slots
returns-in-Leading-clause-slots g c =
    subst (λ (h : Held g.row.B.Denot). AreInSlots (proposals_of (role_in h))) c.self.view_is
    (in_role c.self.inside.phase c.self.inside.promises.items c.self.inside.proposed.votes c.self.invariant.1)

pub returns-in-Leading-clause-turn : goal.returns-in-Leading-clause-turn
returns-in-Leading-clause-turn g c =
    subst (λ (h : Held g.row.B.Denot). ProposesInTurn (role_in h)) c.self.view_is
    (turn_in_role c.self.inside.phase c.self.inside.promises.items c.self.inside.proposed.votes c.self.invariant.1)

pub returns-in-Leading-clause-behind : goal.returns-in-Leading-clause-behind
returns-in-Leading-clause-behind g c = search rules
