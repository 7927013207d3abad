use Rattle.std.proofs.Common.{◌≡◌, ◌++◌, drop}
use Rattle.std.specs.List.{flat_map}
use Rattle.paxos_planning.specs.Drafting.{asked_again}
use Rattle.paxos_planning.proofs.ticking.put_accepts.Given as goal

-- with the rest's packets, what is there is what was there with all of them
abbrev pub invariant-loop-vote : goal.invariant-loop-vote
invariant-loop-vote g l =
    l.packets.items ++ flat_map (asked_again l.me l.others l.learner.state.learner) (drop l.vote-index l.votes)
    ≡ l.initial.packets.items ++ flat_map (asked_again l.me l.others l.learner.state.learner) l.votes
