use Rattle.paxos_node.proofs.Seeing.{sees_started, stays_seen}
use Rattle.paxos_node.proofs.laws.ballots_are_seen.Goals as goal

pub returns-clause-started : goal.returns-clause-started
returns-clause-started g c = sees_started

pub returns-clause-kept : goal.returns-clause-kept
returns-clause-kept g c = stays_seen
