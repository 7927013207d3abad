use Rattle.std.proofs.Common.{◌≡◌, rules}
use Rattle.paxos_learner.specs.declared.hearing.News.TheVariants.{Told}
use Rattle.paxos_learner.specs.Hearing.{and_news}
use Rattle.paxos_planning.proofs.Planning.{told_then}
use Rattle.paxos_planning.proofs.draft.tell_in.Goals as goal

pub returns-clause-learner : goal.returns-clause-learner
returns-clause-learner g c =
    let heard : c.tell.new.self ≡ and_news (Told c.args.slot c.args.entry.now) c.args.hearing.now = search rules in
    told_then c.args.slot c.args.entry.now c.args.hearing.now c.tell.new.self heard
