use Rattle.std.proofs.Common.{◌≡◌, ◌≤◌, take, drop}
use Rattle.paxos_planning.specs.Walking.{walked_through, walk_all, walk_from, votes_of}
use Rattle.paxos_planning.proofs.parts.Parts.walk.Given as goal

-- with the rest, what is gone through is what the whole gives
abbrev pub invariant-loop-entry : goal.invariant-loop-entry
invariant-loop-entry g l = (l.place ≡ l.entry-index) × (l.walk.from ≤ l.place) × (1 ≤ l.walk.next)
    × (walk_all g.B.Body.same l.self.members l.self.me l.lead.applied l.lead.ballot (votes_of l.lead.earlier) l.self.state.learner
    (drop l.entry-index l.entries) (walked_through (take l.entry-index l.entries) l.walk)
    ≡ walk_all g.B.Body.same l.self.members l.self.me l.lead.applied l.lead.ballot (votes_of l.lead.earlier) l.self.state.learner l.entries
    (walk_from l.lead.next l.lead.other))
