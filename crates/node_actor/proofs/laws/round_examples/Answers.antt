-- Computed.
use Rattle.std.proofs.Common.{refl}
use Rattle.paxos_packets.specs.Rows.{last_boot}
use Rattle.paxos_proposer.specs.Proposer.{round_end, slot_end}
use Rattle.paxos_node.specs.Events.{last_number, most_pending}
use Rattle.node_actor.proofs.laws.round_examples.Goals as goal

pub returns-clause-own : goal.returns-clause-own
unfolding round_end slot_end last_boot last_number most_pending
returns-clause-own c = refl

pub returns-clause-own_held : goal.returns-clause-own_held
unfolding round_end slot_end last_boot last_number most_pending
returns-clause-own_held c = refl

pub returns-clause-dropped : goal.returns-clause-dropped
unfolding round_end slot_end last_boot last_number most_pending
returns-clause-dropped c = refl

pub returns-clause-dropped_held : goal.returns-clause-dropped_held
unfolding round_end slot_end last_boot last_number most_pending
returns-clause-dropped_held c = refl

pub returns-clause-last_one : goal.returns-clause-last_one
unfolding round_end slot_end last_boot last_number most_pending
returns-clause-last_one c = refl

pub returns-clause-held : goal.returns-clause-held
unfolding round_end slot_end last_boot last_number most_pending
returns-clause-held c = refl

pub returns-clause-forwards : goal.returns-clause-forwards
unfolding round_end slot_end last_boot last_number most_pending
returns-clause-forwards c = refl

pub returns-clause-forwarded : goal.returns-clause-forwarded
unfolding round_end slot_end last_boot last_number most_pending
returns-clause-forwarded c = refl
