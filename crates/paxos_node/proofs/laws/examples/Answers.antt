-- Computed.
use Rattle.std.proofs.Common.{refl}
use Rattle.paxos_packets.specs.Rows.{last_boot}
use Rattle.paxos_proposer.specs.Proposer.{round_end, slot_end}
use Rattle.paxos_node.specs.Events.{last_number, most_pending}
use Rattle.paxos_node.proofs.laws.examples.Goals as goal

pub returns-clause-asked : goal.returns-clause-asked
unfolding round_end slot_end last_boot last_number most_pending
returns-clause-asked c = refl

pub returns-clause-asked_round : goal.returns-clause-asked_round
unfolding round_end slot_end last_boot last_number most_pending
returns-clause-asked_round c = refl

pub returns-clause-asked_packets : goal.returns-clause-asked_packets
unfolding round_end slot_end last_boot last_number most_pending
returns-clause-asked_packets c = refl

pub returns-clause-led : goal.returns-clause-led
unfolding round_end slot_end last_boot last_number most_pending
returns-clause-led c = refl

pub returns-clause-led_packets : goal.returns-clause-led_packets
unfolding round_end slot_end last_boot last_number most_pending
returns-clause-led_packets c = refl

pub returns-clause-tick_packets : goal.returns-clause-tick_packets
unfolding round_end slot_end last_boot last_number most_pending
returns-clause-tick_packets c = refl

pub returns-clause-tick_node : goal.returns-clause-tick_node
unfolding round_end slot_end last_boot last_number most_pending
returns-clause-tick_node c = refl

pub returns-clause-room : goal.returns-clause-room
unfolding round_end slot_end last_boot last_number most_pending
returns-clause-room c = refl

pub returns-clause-full : goal.returns-clause-full
unfolding round_end slot_end last_boot last_number most_pending
returns-clause-full c = refl

pub returns-clause-full_node : goal.returns-clause-full_node
unfolding round_end slot_end last_boot last_number most_pending
returns-clause-full_node c = refl

pub returns-clause-last_round : goal.returns-clause-last_round
unfolding round_end slot_end last_boot last_number most_pending
returns-clause-last_round c = refl

pub returns-clause-rounds_spent : goal.returns-clause-rounds_spent
unfolding round_end slot_end last_boot last_number most_pending
returns-clause-rounds_spent c = refl

pub returns-clause-rounds_node : goal.returns-clause-rounds_node
unfolding round_end slot_end last_boot last_number most_pending
returns-clause-rounds_node c = refl

pub returns-clause-last_slot : goal.returns-clause-last_slot
unfolding round_end slot_end last_boot last_number most_pending
returns-clause-last_slot c = refl

pub returns-clause-slots_spent : goal.returns-clause-slots_spent
unfolding round_end slot_end last_boot last_number most_pending
returns-clause-slots_spent c = refl

pub returns-clause-stays_pending : goal.returns-clause-stays_pending
unfolding round_end slot_end last_boot last_number most_pending
returns-clause-stays_pending c = refl
