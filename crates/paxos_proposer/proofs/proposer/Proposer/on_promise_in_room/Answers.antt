use Rattle.std.proofs.Common.{rules}
use Rattle.paxos_proposer.proofs.proposer.Proposer.on_promise_in_room.Goals as goal

pub returns-clause-state : goal.returns-clause-state
returns-clause-state g c = search rules
