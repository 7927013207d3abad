-- What is appended is what the votes so far replace.
use Rattle.std.proofs.Common.{◌≡◌, ◌++◌, take}
use Rattle.paxos_acceptor.specs.Ahead.{replaced_by}
use Rattle.paxos_acceptor.proofs.ahead.note_all.Given as goal

abbrev pub invariant-loop-vote : goal.invariant-loop-vote
invariant-loop-vote g l =
    l.replaced.items ≡ l.initial.replaced.items ++ replaced_by (take l.vote-index l.votes) l.held.votes
