use Rattle.paxos_proposer.proofs.Reporting.{best_front}
use Rattle.paxos_proposer.proofs.reports.vote_for.Goals as goal

pub returns : goal.returns
returns g c = λ others. rw c.find.ensures (best_front c.args.slot c.args.votes.now others c.as_slice-ascending.ensures.ascending)
