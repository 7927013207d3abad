-- Computed.
use Rattle.std.proofs.Common.{refl}
use Rattle.paxos_packets.specs.Rows.{last_boot}
use Rattle.paxos_proposer.specs.Proposer.{round_end, slot_end}
use Rattle.paxos_node.specs.Events.{last_number, most_pending}
use Rattle.cluster_world.specs.Scripts.{most_deliveries}
use Rattle.cluster_world.proofs.laws.examples.Goals as goal

pub returns-clause-session : goal.returns-clause-session
unfolding most_deliveries round_end slot_end last_boot last_number most_pending
returns-clause-session c = refl

pub returns-clause-session_handed : goal.returns-clause-session_handed
unfolding most_deliveries round_end slot_end last_boot last_number most_pending
returns-clause-session_handed c = refl

pub returns-clause-crash : goal.returns-clause-crash
unfolding most_deliveries round_end slot_end last_boot last_number most_pending
returns-clause-crash c = refl

pub returns-clause-crash_up : goal.returns-clause-crash_up
unfolding most_deliveries round_end slot_end last_boot last_number most_pending
returns-clause-crash_up c = refl

pub returns-clause-crash_packets : goal.returns-clause-crash_packets
unfolding most_deliveries round_end slot_end last_boot last_number most_pending
returns-clause-crash_packets c = refl

pub returns-clause-hung : goal.returns-clause-hung
unfolding most_deliveries round_end slot_end last_boot last_number most_pending
returns-clause-hung c = refl

pub returns-clause-hung_effects : goal.returns-clause-hung_effects
unfolding most_deliveries round_end slot_end last_boot last_number most_pending
returns-clause-hung_effects c = refl

pub returns-clause-in_vain : goal.returns-clause-in_vain
unfolding most_deliveries round_end slot_end last_boot last_number most_pending
returns-clause-in_vain c = refl

pub returns-clause-again : goal.returns-clause-again
unfolding most_deliveries round_end slot_end last_boot last_number most_pending
returns-clause-again c = refl

pub returns-clause-lost : goal.returns-clause-lost
unfolding most_deliveries round_end slot_end last_boot last_number most_pending
returns-clause-lost c = refl

pub returns-clause-lost_up : goal.returns-clause-lost_up
unfolding most_deliveries round_end slot_end last_boot last_number most_pending
returns-clause-lost_up c = refl

pub returns-clause-lost_handed : goal.returns-clause-lost_handed
unfolding most_deliveries round_end slot_end last_boot last_number most_pending
returns-clause-lost_handed c = refl

pub returns-clause-back_handed : goal.returns-clause-back_handed
unfolding most_deliveries round_end slot_end last_boot last_number most_pending
returns-clause-back_handed c = refl

pub returns-clause-duel : goal.returns-clause-duel
unfolding most_deliveries round_end slot_end last_boot last_number most_pending
returns-clause-duel c = refl
