use Rattle.std.proofs.Common.{◌+◌, ◌≤◌, List, sym, subst, arith}
use Rattle.paxos_packets.specs.declared.vote.Vote.{Vote}
use Rattle.paxos_proposer.specs.declared.phase.Phase.{Phase}
use Rattle.paxos_proposer.specs.Proposals.{AreUpTo}
use Rattle.paxos_proposer.specs.State.{IsAboveNone, IsInTurn}
use Rattle.paxos_proposer.proofs.InTurn.{one_more}
use Rattle.paxos_proposer.proofs.proposer.Proposer.submit_in_room.Goals as goal

pub invariant_of-self : goal.invariant_of-self
invariant_of-self g c =
    let low : 1 ≤ c.in-Leading.next = subst (λ (p : Phase). IsAboveNone p) c.in-Leading.is c.self.invariant.0 in
    let turn : AreUpTo c.in-Leading.next c.self.inside.proposed.votes =
    subst (λ (p : Phase). IsInTurn p c.self.inside.proposed.votes) c.in-Leading.is c.self.invariant.1 in (
      omega arith,
      subst (λ (vs : List (Vote g.row.B.Denot)). AreUpTo (c.in-Leading.next + 1) vs) (sym c.push_reserved.ensures.votes)
          (one_more c.in-Leading.next c.self.inside.proposed.votes _ low c.in-Some.ensures.value turn),
    )
