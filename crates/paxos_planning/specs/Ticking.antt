-- Tick: what waits for an answer is sent again, and what a node lacks is asked for (docs/CONSENSUS.md, "Events").
use Rattle.std.specs.Prelude.{ℕ, suc, Bool, not, List, [], map, filter, if◌then◌else◌}
use Rattle.std.specs.List.{flat_map}
use Rattle.paxos_packets.specs.Members.{others}
use Rattle.paxos_packets.specs.Packet.{packet, to_others}
use Rattle.paxos_packets.specs.declared.vote.Vote.{Vote}
use Rattle.paxos_packets.specs.declared.packet.Kind.TheVariants.{Prepare, Accept, Ask}
use Rattle.paxos_packets.specs.declared.packet.Packet.{Packet}
use Rattle.paxos_proposer.specs.Role.{Role, Idle, Preparing, Leading}
use Rattle.paxos_proposer.specs.Reports.{is_counted}
use Rattle.paxos_learner.specs.Learner.{LearnerState, is_known}
use Rattle.paxos_planning.specs.Node.{Plan, log_length}
use Rattle.paxos_planning.specs.Plan.{send}
use Rattle.paxos_planning.specs.Proposals.{push}

-- the votes proposed in slots of which it isn't known what they hold, slot by slot
abbrev pub accepts_again : {B : Type 0} → ℕ → ℕ → LearnerState B → List (Vote B) → List (Packet B)
accepts_again members me l votes =
    flat_map (λ v. if is_known v.slot l then [] else to_others members me (Accept v)) votes

abbrev pub again : {B : Type 0} → ℕ → ℕ → Role B → LearnerState B → List (Packet B)
again members me Idle l = []
again members me (Preparing b first promises) l =
    map (packet me (Prepare b first)) (filter (λ k. not (is_counted promises k)) (others me members))
again members me (Leading b next proposed) l = accepts_again members me l proposed

-- it asks the others for the slots that it lacks
abbrev pub ask : {B : Type 0} → ℕ → ℕ → Plan B → Plan B
ask members me o = send (to_others members me (Ask (suc (log_length o.node)))) o

abbrev pub on_tick : {B : Type 0} → (B → B → Bool) → ℕ → ℕ → Plan B → Plan B
on_tick same members me o = ask members me (push same members me (send (again members me o.node.proposer.role o.node.learner) o))
