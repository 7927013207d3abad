use Rattle.std.proofs.Common.{◌≡◌, suc, max, subst, rules, arith}
use Rattle.paxos_proposer.specs.declared.phase.Phase.{Phase}
use Rattle.paxos_proposer.specs.Proposals.{AreUpTo, behind}
use Rattle.paxos_proposer.specs.State.{IsInTurn}
use Rattle.paxos_proposer.proofs.InTurn.{raised_in_turn}
use Rattle.paxos_proposer.proofs.proposer.Proposer.raise_above.Goals as goal

pub invariant_of-self : goal.invariant_of-self
invariant_of-self g c =
    let turn : AreUpTo c.in-Leading.next c.self.inside.proposed.votes =
    subst (λ (p : Phase). IsInTurn p c.self.inside.proposed.votes) c.in-Leading.is c.self.invariant.1 in
    let next : c.max.result ≡ max c.in-Leading.next (suc c.args.floor) = search rules in
    let votes : c.forget.new.self.votes ≡ behind c.args.floor c.self.inside.proposed.votes = search rules in (
      omega (arith, next),
      rw (next, votes) (raised_in_turn c.args.floor c.in-Leading.next c.self.inside.proposed.votes turn),
    )
