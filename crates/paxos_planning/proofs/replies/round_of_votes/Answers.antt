use Rattle.std.proofs.Common.{drop, ◌+◌}
use Rattle.std.proofs.lemmas.List.{at_drop_all}
use Rattle.paxos_planning.specs.Replies.{round_of_votes}
use Rattle.paxos_planning.proofs.Sending.{rest_read, greatest_on, greatest_all}
use Rattle.paxos_planning.proofs.replies.round_of_votes.Goals as goal

pub loop-vote-preserved : goal.loop-vote-preserved
loop-vote-preserved g c =
    greatest_on c.loop-vote.round (round_of_votes (drop c.loop-vote.vote-index c.args.votes.now)) (round_of_votes c.args.votes.now)
    c.loop-vote.invariant c.max-round.result c.vote-item.result.ballot.round (round_of_votes (drop (c.loop-vote.vote-index + 1) c.args.votes.now))
    c.max-round.ensures
    (rest_read (λ vs. round_of_votes vs) c.args.votes.now c.loop-vote.vote-index c.vote-item.result c.loop-vote-test.true c.vote-item.is)

pub returns : goal.returns
returns g c =
    greatest_all c.loop-vote.round (round_of_votes (drop c.loop-vote.vote-index c.args.votes.now)) (round_of_votes c.args.votes.now)
    c.loop-vote.invariant (at_drop_all (λ vs. round_of_votes vs) c.args.votes.now c.loop-vote.vote-index c.loop-vote-test.false)
