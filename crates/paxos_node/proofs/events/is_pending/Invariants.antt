use Rattle.std.proofs.Common.{◌≡◌, drop}
use Rattle.paxos_node.specs.Events.{is_pending}
use Rattle.paxos_node.proofs.events.is_pending.Given as goal

-- the rest gives the same result as the whole
abbrev pub invariant-loop-entry : goal.invariant-loop-entry
invariant-loop-entry g l = is_pending g.B.Body.same (drop l.entry-index l.pending) l.wanted ≡ is_pending g.B.Body.same l.pending l.wanted
