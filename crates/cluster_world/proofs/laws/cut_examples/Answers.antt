-- Computed.
use Rattle.std.proofs.Common.{refl}
use Rattle.command_codec.specs.Number.{number_reading}
use Rattle.paxos_packets.specs.Rows.{last_boot}
use Rattle.paxos_proposer.specs.Proposer.{round_end, slot_end}
use Rattle.paxos_node.specs.Events.{last_number, most_pending}
use Rattle.cluster_world.specs.Scripts.{most_deliveries}
use Rattle.cluster_world.proofs.laws.cut_examples.Goals as goal

pub returns-clause-long_down_1 : goal.returns-clause-long_down_1
unfolding number_reading most_deliveries round_end slot_end last_boot last_number most_pending
returns-clause-long_down_1 c = refl

pub returns-clause-long_down_2 : goal.returns-clause-long_down_2
unfolding number_reading most_deliveries round_end slot_end last_boot last_number most_pending
returns-clause-long_down_2 c = refl

pub returns-clause-long_down_3 : goal.returns-clause-long_down_3
unfolding number_reading most_deliveries round_end slot_end last_boot last_number most_pending
returns-clause-long_down_3 c = refl

pub returns-clause-raised_next_1 : goal.returns-clause-raised_next_1
unfolding number_reading most_deliveries round_end slot_end last_boot last_number most_pending
returns-clause-raised_next_1 c = refl

pub returns-clause-cut_before_majority_1 : goal.returns-clause-cut_before_majority_1
unfolding number_reading most_deliveries round_end slot_end last_boot last_number most_pending
returns-clause-cut_before_majority_1 c = refl

pub returns-clause-cut_before_majority_2 : goal.returns-clause-cut_before_majority_2
unfolding number_reading most_deliveries round_end slot_end last_boot last_number most_pending
returns-clause-cut_before_majority_2 c = refl

pub returns-clause-cut_before_majority_3 : goal.returns-clause-cut_before_majority_3
unfolding number_reading most_deliveries round_end slot_end last_boot last_number most_pending
returns-clause-cut_before_majority_3 c = refl

pub returns-clause-own_boot_1 : goal.returns-clause-own_boot_1
unfolding number_reading most_deliveries round_end slot_end last_boot last_number most_pending
returns-clause-own_boot_1 c = refl

pub returns-clause-own_boot_3 : goal.returns-clause-own_boot_3
unfolding number_reading most_deliveries round_end slot_end last_boot last_number most_pending
returns-clause-own_boot_3 c = refl

pub returns-clause-own_boot_left_3 : goal.returns-clause-own_boot_left_3
unfolding number_reading most_deliveries round_end slot_end last_boot last_number most_pending
returns-clause-own_boot_left_3 c = refl

pub returns-clause-two_floors_2 : goal.returns-clause-two_floors_2
unfolding number_reading most_deliveries round_end slot_end last_boot last_number most_pending
returns-clause-two_floors_2 c = refl

pub returns-clause-two_floors_3 : goal.returns-clause-two_floors_3
unfolding number_reading most_deliveries round_end slot_end last_boot last_number most_pending
returns-clause-two_floors_3 c = refl

pub returns-clause-two_floors_5 : goal.returns-clause-two_floors_5
unfolding number_reading most_deliveries round_end slot_end last_boot last_number most_pending
returns-clause-two_floors_5 c = refl

pub returns-clause-two_floors_asked_5 : goal.returns-clause-two_floors_asked_5
unfolding number_reading most_deliveries round_end slot_end last_boot last_number most_pending
returns-clause-two_floors_asked_5 c = refl

pub returns-clause-accept_below_1 : goal.returns-clause-accept_below_1
unfolding number_reading most_deliveries round_end slot_end last_boot last_number most_pending
returns-clause-accept_below_1 c = refl

pub returns-clause-accept_below_2 : goal.returns-clause-accept_below_2
unfolding number_reading most_deliveries round_end slot_end last_boot last_number most_pending
returns-clause-accept_below_2 c = refl

pub returns-clause-accept_below_3 : goal.returns-clause-accept_below_3
unfolding number_reading most_deliveries round_end slot_end last_boot last_number most_pending
returns-clause-accept_below_3 c = refl

pub returns-clause-overtaken_1 : goal.returns-clause-overtaken_1
unfolding number_reading most_deliveries round_end slot_end last_boot last_number most_pending
returns-clause-overtaken_1 c = refl

pub returns-clause-overtaken_2 : goal.returns-clause-overtaken_2
unfolding number_reading most_deliveries round_end slot_end last_boot last_number most_pending
returns-clause-overtaken_2 c = refl

pub returns-clause-overtaken_3 : goal.returns-clause-overtaken_3
unfolding number_reading most_deliveries round_end slot_end last_boot last_number most_pending
returns-clause-overtaken_3 c = refl

pub returns-clause-lost_above_1 : goal.returns-clause-lost_above_1
unfolding number_reading most_deliveries round_end slot_end last_boot last_number most_pending
returns-clause-lost_above_1 c = refl

pub returns-clause-lost_dropped_1 : goal.returns-clause-lost_dropped_1
unfolding number_reading most_deliveries round_end slot_end last_boot last_number most_pending
returns-clause-lost_dropped_1 c = refl

pub returns-clause-lost_dropped_2 : goal.returns-clause-lost_dropped_2
unfolding number_reading most_deliveries round_end slot_end last_boot last_number most_pending
returns-clause-lost_dropped_2 c = refl

pub returns-clause-at_the_floor_2 : goal.returns-clause-at_the_floor_2
unfolding number_reading most_deliveries round_end slot_end last_boot last_number most_pending
returns-clause-at_the_floor_2 c = refl

pub returns-clause-lost_above_3 : goal.returns-clause-lost_above_3
unfolding number_reading most_deliveries round_end slot_end last_boot last_number most_pending
returns-clause-lost_above_3 c = refl
