-- What is left to put back gives what the whole gives.
use Rattle.std.proofs.Common.{◌≡◌, vec_len}
use Rattle.paxos_acceptor.specs.Ahead.{put_all_back}
use Rattle.paxos_acceptor.proofs.acceptor.put_all_back.Given as goal

abbrev pub invariant-loop-had : goal.invariant-loop-had
invariant-loop-had g l = put_all_back l.replaced.items l.votes.votes ≡ put_all_back l.initial.replaced.items l.initial.votes.votes

abbrev pub decreases-loop-had : goal.decreases-loop-had
decreases-loop-had g l = vec_len l.replaced
