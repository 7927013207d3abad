use Rattle.std.proofs.Common.{[], ◌∷◌, ◌++◌, ap, sym, ◌∙◌}
use Rattle.paxos_planning.specs.Walking.{Walked, entry_of, walk_on, walk_from, votes_of}
use Rattle.paxos_planning.proofs.OwnVotes.{walk_end}
use Rattle.paxos_planning.proofs.parts.Parts.proposes_other_then.Goals as goal

pub returns : goal.returns
returns g c =
    let w = c.args.self.now in
    let lead = c.in-Some.lead in
    let e = entry_of c.args.added.now in
    c.ends_other.ensures
    ∙ ap (λ (x : Walked g.row.B.Denot). (walk_on g.B.Body.same w.members w.me lead.applied lead.ballot (votes_of lead.earlier) w.state.learner e x).other)
    c.walk-walk.ensures.walk
    ∙ ap (λ (x : Walked g.row.B.Denot). x.other) (sym (walk_end g.B.Body.same w.members w.me lead.applied lead.ballot (votes_of lead.earlier)
    w.state.learner c.args.entries.now e (walk_from lead.next lead.other)))
    ∙ sym (c.in-Some.ensures.1 (c.args.entries.now ++ e ∷ []))
