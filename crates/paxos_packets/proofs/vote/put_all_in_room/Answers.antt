use Rattle.std.proofs.Common.{◌∷◌, [], sym, ◌∙◌, ap, arith, length-append}
use Rattle.paxos_packets.specs.Vote.{put_vote}
use Rattle.paxos_packets.proofs.Placing.{put_votes-push}
use Rattle.paxos_packets.proofs.vote.put_all_in_room.Goals as goal

pub loop-vote-preserved : goal.loop-vote-preserved
loop-vote-preserved g c = (
  c.in-Ok.ensures.ok
      ∙ (ap (λ ws. put_vote c.in-Some.vote ws) c.loop-vote.invariant.0
      ∙ sym (put_votes-push c.loop-vote.yielded c.in-Some.vote c.args.votes.now.items)),
  c.put_in.ensures.ascending,
  omega (arith, length-append c.loop-vote.yielded (c.in-Some.vote ∷ [])),
)
