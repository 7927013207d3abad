use Rattle.std.proofs.Common.{◌≡◌, drop}
use Rattle.paxos_planning.specs.Proposals.{propose_all}
use Rattle.paxos_planning.proofs.draft.Draft.propose_all.Given as goal

-- the rest gives what the whole gives
abbrev pub invariant-loop-entry : goal.invariant-loop-entry
invariant-loop-entry g l =
    (l.self.of ≡ l.initial.self.of)
    × (propose_all g.B.Body.same l.initial.self.of.members l.initial.self.of.me (drop l.entry-index l.entries) l.self.plan
    ≡ propose_all g.B.Body.same l.initial.self.of.members l.initial.self.of.me l.entries l.initial.self.plan)
