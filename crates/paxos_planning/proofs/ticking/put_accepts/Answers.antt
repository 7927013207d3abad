use Rattle.std.proofs.Common.{◌++◌, ◌+◌, drop}
use Rattle.std.specs.List.{flat_map}
use Rattle.std.proofs.lemmas.List.{at_drop_all}
use Rattle.paxos_planning.specs.Drafting.{asked_again}
use Rattle.paxos_planning.proofs.Sending.{rest_read, sent_on, sent_all}
use Rattle.paxos_planning.proofs.ticking.put_accepts.Goals as goal

pub loop-vote-preserved : goal.loop-vote-preserved
loop-vote-preserved g c =
    let f = asked_again c.args.me c.args.others.now c.args.learner.now.state.learner in
    sent_on c.loop-vote.packets.items (flat_map f (drop c.loop-vote.vote-index c.args.votes.now)) (c.args.packets.now.items ++ flat_map f c.args.votes.now)
    c.loop-vote.invariant
    c.put_accept.new.packets.items (f c.vote-item.result) (flat_map f (drop (c.loop-vote.vote-index + 1) c.args.votes.now))
    c.in_ok-put_accept.ensures.ok
    (rest_read (λ l. flat_map f l) c.args.votes.now c.loop-vote.vote-index c.vote-item.result c.loop-vote-test.true c.vote-item.is)

pub returns : goal.returns
returns g c =
    let f = asked_again c.args.me c.args.others.now c.args.learner.now.state.learner in
    record {
      ok = sent_all c.loop-vote.packets.items (flat_map f (drop c.loop-vote.vote-index c.args.votes.now))
          (c.args.packets.now.items ++ flat_map f c.args.votes.now) c.loop-vote.invariant
          (at_drop_all (λ l. flat_map f l) c.args.votes.now c.loop-vote.vote-index c.loop-vote-test.false);
    }
