-- The votes that are left are judged as all of them are.
use Rattle.std.proofs.Common.{◌≡◌, drop}
use Rattle.std.specs.List.{list_all}
use Rattle.paxos_acceptor.specs.Acceptor.{has_vote}
use Rattle.paxos_acceptor.proofs.acceptor.Acceptor.has_votes.Given as goal

abbrev pub invariant-loop-vote : goal.invariant-loop-vote
invariant-loop-vote g l = list_all (has_vote g.B.Body.same l.self.rows.votes) (drop l.vote-index l.votes)
    ≡ list_all (has_vote g.B.Body.same l.self.rows.votes) l.votes
