use Rattle.std.proofs.Common.{◌≡◌, ℕ, ap, ◌∙◌, rules}
use Rattle.paxos_learner.specs.declared.hearing.News.TheVariants.{Cast}
use Rattle.paxos_learner.specs.Hearing.{after, and_news}
use Rattle.paxos_learner.specs.Learner.{vote_disagrees}
use Rattle.paxos_planning.proofs.Planning.{counted, members_then}
use Rattle.paxos_planning.proofs.draft.count_in.Goals as goal

pub returns-clause-learner : goal.returns-clause-learner
returns-clause-learner g c =
    let heard : c.vote.new.self ≡ and_news (Cast c.args.node c.args.vote.now) c.args.hearing.now = search rules in
    counted c.args.node c.args.vote.now c.args.hearing.now c.vote.new.self heard

pub returns-clause-other : goal.returns-clause-other
returns-clause-other g c =
    c.in-Ok.ensures.other
    ∙ ap (λ (m : ℕ). vote_disagrees g.B.Body.same m c.args.node c.args.vote.now (after c.args.hearing.now).learner)
    (members_then c.args.hearing.now)
