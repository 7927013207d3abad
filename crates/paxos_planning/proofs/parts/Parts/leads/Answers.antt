use Rattle.std.proofs.Common.{◌≡◌, true, false, ap, subst}
use Rattle.paxos_proposer.specs.Proposer.{is_leading, slots_spent}
use Rattle.paxos_proposer.specs.State.{role_in}
use Rattle.paxos_planning.specs.Node.{log_length}
use Rattle.paxos_planning.proofs.OwnVotes.{none_leads}
use Rattle.paxos_planning.proofs.parts.Parts.leads.Goals as goal

pub returns-in-Err : goal.returns-in-Err
returns-in-Err g c =
    let x = c.args.self.now.state in
    let r : role_in c.proposer-proposer.result.now ≡ x.proposer.role = ap (λ s. s.proposer.role) c.proposer-proposer.ensures in
    none_leads g.B.Body.same c.args.self.now.members c.args.self.now.me (log_length x) x.learner x.proposer.role
    (subst (λ r. is_leading r ≡ true → slots_spent r ≡ false → ⊥) r
    (λ p q. absurd (let k = c.in-Err.ensures.otherwise p q in cc)))
