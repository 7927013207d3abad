use Rattle.std.proofs.Common.{◌≡◌, ap, sym, ◌∙◌}
use Rattle.paxos_proposer.specs.Reports.{entry_or_noop, best}
use Rattle.paxos_planning.specs.Walking.{entry_of, called_entry, differs}
use Rattle.paxos_planning.proofs.parts.Parts.differs_at.Goals as goal
use Rattle.paxos_planning.proofs.parts.Parts.differs_at.Goals.{in-Some, in-None}

pub returns : goal.returns
returns g c =
    let whole = c.args.self.now in
    let entry : entry_of c.match-called_in.wanted ≡ entry_or_noop (best c.args.slot c.args.called.now.votes) =
    elim c.match-called_in.branch [
      | in-Some w ↦ rw w.wanted-is (sym (ap called_entry w.in-Some.is) ∙ c.called_in.ensures)
      | in-None w ↦ rw w.wanted-is (sym (ap called_entry w.in-None.is) ∙ c.called_in.ensures)
    ] in
    c.differs.ensures
    ∙ (λ i. differs g.B.Body.same whole.members whole.me (c.ballot.ensures i) whole.state.learner c.args.slot (entry i))
