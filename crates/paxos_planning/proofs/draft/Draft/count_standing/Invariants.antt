use Rattle.std.proofs.Common.{◌≡◌, take}
use Rattle.paxos_planning.specs.Node.{log_length}
use Rattle.paxos_planning.specs.Front.{AllStand}
use Rattle.paxos_planning.proofs.draft.Draft.count_standing.Given as goal

-- those so far stand
abbrev pub invariant-loop-entry : goal.invariant-loop-entry
invariant-loop-entry g l =
    AllStand g.B.Body.same (log_length l.self.plan.node) l.self.plan.node.proposer.role (take l.count l.entries) × (l.count ≡ l.entry-index)
