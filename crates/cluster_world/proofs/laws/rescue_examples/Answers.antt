-- Computed.
use Rattle.std.proofs.Common.{refl}
use Rattle.command_codec.specs.Number.{number_reading}
use Rattle.paxos_packets.specs.Rows.{last_boot}
use Rattle.paxos_proposer.specs.Proposer.{round_end, slot_end}
use Rattle.paxos_node.specs.Events.{last_number, most_pending}
use Rattle.cluster_world.specs.Scripts.{most_deliveries}
use Rattle.cluster_world.proofs.laws.rescue_examples.Goals as goal

pub returns-clause-behind_a_cut_3 : goal.returns-clause-behind_a_cut_3
unfolding number_reading most_deliveries round_end slot_end last_boot last_number most_pending
returns-clause-behind_a_cut_3 c = refl

pub returns-clause-behind_own_boot_3 : goal.returns-clause-behind_own_boot_3
unfolding number_reading most_deliveries round_end slot_end last_boot last_number most_pending
returns-clause-behind_own_boot_3 c = refl

pub returns-clause-learned_above_3 : goal.returns-clause-learned_above_3
unfolding number_reading most_deliveries round_end slot_end last_boot last_number most_pending
returns-clause-learned_above_3 c = refl

pub returns-clause-own_lost_above_3 : goal.returns-clause-own_lost_above_3
unfolding number_reading most_deliveries round_end slot_end last_boot last_number most_pending
returns-clause-own_lost_above_3 c = refl

pub returns-clause-cut_by_another_3 : goal.returns-clause-cut_by_another_3
unfolding number_reading most_deliveries round_end slot_end last_boot last_number most_pending
returns-clause-cut_by_another_3 c = refl

pub returns-clause-cut_by_itself_3 : goal.returns-clause-cut_by_itself_3
unfolding number_reading most_deliveries round_end slot_end last_boot last_number most_pending
returns-clause-cut_by_itself_3 c = refl

pub returns-clause-floors_of_two_5 : goal.returns-clause-floors_of_two_5
unfolding number_reading most_deliveries round_end slot_end last_boot last_number most_pending
returns-clause-floors_of_two_5 c = refl
