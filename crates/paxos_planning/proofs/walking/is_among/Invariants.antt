use Rattle.std.proofs.Common.{◌≡◌, drop}
use Rattle.std.specs.List.{list_any}
use Rattle.paxos_packets.specs.Entry.{same_entry}
use Rattle.paxos_planning.specs.Walking.{entry_of}
use Rattle.paxos_planning.proofs.walking.is_among.Given as goal

-- the rest gives the same result as the whole
abbrev pub invariant-loop-entry : goal.invariant-loop-entry
invariant-loop-entry g l =
    list_any (λ e. same_entry g.B.Body.same e (entry_of l.wanted)) (drop l.entry-index l.entries)
    ≡ list_any (λ e. same_entry g.B.Body.same e (entry_of l.wanted)) l.entries
