use Rattle.std.proofs.Common.{◌≡◌, ◌<◌, true, false, Some, rules}
use Rattle.paxos_learner.specs.Learned.{is_closed}
use Rattle.paxos_learner.specs.Learner.{learned_at, makes_majority}
use Rattle.paxos_proposer.specs.Proposer.{slot_end}
use Rattle.paxos_planning.specs.Walking.{entry_of}
use Rattle.paxos_planning.proofs.OwnVotes.{differs_if, closed_differ, few_differ}
use Rattle.paxos_planning.proofs.walking.differs.Goals as goal

pub returns-then-is_closed : goal.returns-then-is_closed
returns-then-is_closed g c =
    let l = c.args.learner.now.state in
    let closed : is_closed l.learner.floor c.args.slot ≡ true = search rules in
    closed_differ g.B.Body.same l.members c.args.me c.args.ballot l.learner c.args.slot (entry_of c.args.wanted.now) closed

pub returns-then-not-makes_majority : goal.returns-then-not-makes_majority
returns-then-not-makes_majority g c =
    let l = c.args.learner.now.state in
    let m : makes_majority l.members c.args.me c.args.ballot c.args.slot l.learner ≡ false = search rules in
    few_differ g.B.Body.same l.members c.args.me c.args.ballot l.learner c.args.slot (entry_of c.args.wanted.now) m

pub returns-in-Some-learned : goal.returns-in-Some-learned
unfolding slot_end
returns-in-Some-learned g c =
    let l = c.args.learner.now.state in
    let m : makes_majority l.members c.args.me c.args.ballot c.args.slot l.learner ≡ true = search rules in
    let above : is_closed l.learner.floor c.args.slot ≡ false = search rules in
    let lt : c.args.slot < slot_end = search rules in
    let known : Some c.in-Some-learned.known.now ≡ learned_at c.args.slot l.learner.learned = search rules in
    rw c.equals.ensures (differs_if g.B.Body.same l.members c.args.me c.args.ballot l.learner c.args.slot (entry_of c.args.wanted.now)
    (Some c.in-Some-learned.known.now) lt above m known)
