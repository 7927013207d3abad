-- Start: a ballot above all that a node saw, which it has seen then (docs/CONSENSUS.md, "Events"; Lamport 2001, section 2.2, phase 1 (a)).
use Rattle.std.specs.Prelude.{ℕ, suc, max, Bool, not, ◌++◌, if◌then◌else◌}
use Rattle.paxos_packets.specs.Packet.{to_others}
use Rattle.paxos_packets.specs.Snapshot.{floor_in}
use Rattle.paxos_packets.specs.Vote.{votes_from}
use Rattle.paxos_packets.specs.declared.ballot.Ballot.{Ballot}
use Rattle.paxos_packets.specs.declared.packet.Kind.TheVariants.{Prepare}
use Rattle.paxos_acceptor.specs.Acceptor.{with_promise}
use Rattle.paxos_proposer.specs.Proposer.{new_ballot, rounds_spent, asking}
use Rattle.paxos_planning.specs.Node.{NodeState, Plan, log_length}
use Rattle.paxos_planning.specs.Plan.{and_promise}

abbrev pub begin : {B : Type 0} → ℕ → ℕ → Ballot → ℕ → Plan B → Plan B
begin members me b first o =
    record o {
      node = record o.node {
        rows = with_promise b o.node.rows;
        proposer = record {
          role = asking me b first (floor_in o.node.rows.snapshot) (votes_from first o.node.rows.votes);
          seen = max o.node.proposer.seen b.round;
        };
      };
      change = and_promise b o.change;
      packets = o.packets ++ to_others members me (Prepare b first);
    }

abbrev pub starts : {B : Type 0} → ℕ → NodeState B → Bool
starts me x = not (rounds_spent me x.rows.promised x.proposer)

abbrev pub on_start : {B : Type 0} → ℕ → ℕ → Plan B → Plan B
on_start members me o =
    if starts me o.node then begin members me (new_ballot me o.node.rows.promised o.node.proposer) (suc (log_length o.node)) o
    else o
