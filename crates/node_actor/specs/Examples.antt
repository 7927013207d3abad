-- Nodes over snapshots by hand, of three members, with a machine that adds up: for the examples of the module `laws`.
use Rattle.std.specs.Prelude.{ℕ, Bool, false, ◌==◌, Some, [], ◌∷◌, take}
use Rattle.paxos_packets.specs.Packet.{packet}
use Rattle.paxos_packets.specs.Rows.{first_rows}
use Rattle.paxos_packets.specs.Snapshot as taken
use Rattle.paxos_packets.specs.declared.entry.Entry.TheVariants.{Noop, Boot, Item}
use Rattle.paxos_packets.specs.declared.packet.Kind.TheVariants.{Snapshot}
use Rattle.paxos_packets.specs.declared.rows.Rows.{Rows}
use Rattle.paxos_packets.specs.declared.vote.Vote.{Vote}
use Rattle.paxos_acceptor.specs.Acceptor as accepting
use Rattle.paxos_node.specs.Applying.{started}
use Rattle.paxos_node.specs.Outcome.{resting_with}
use Rattle.paxos_node.specs.declared.event.Event.{Event}
use Rattle.paxos_node.specs.declared.event.Event.TheVariants.{Deliver, Cut}
use Rattle.paxos_node.specs.declared.outcome.Outcome.{Outcome}
use Rattle.paxos_planning.specs.Node.{NodeState}
use Rattle.replica_machine.specs.Examples.{lost_and_back}
use Rattle.replica_machine.specs.SnapshotExamples.{summed_octets}
use Rattle.node_actor.specs.Snapshots.{Logs}

abbrev pub same_number : ℕ → ℕ → Bool
same_number m n = m == n

-- a snapshot of the log `lost_and_back`; the same with an octet too few of the machine, of which no log is made; and the logs that they are of
abbrev pub summed_up : taken.Snapshot
summed_up = record { floor = 12; octets = summed_octets }

abbrev pub cut_short : taken.Snapshot
cut_short = record { floor = 12; octets = take 134 summed_octets }

abbrev pub logs : Logs ℕ
logs s = lost_and_back

-- a node in its first state; one that has applied this log; and one that begins with the snapshot
abbrev pub first_node : ℕ → NodeState ℕ
first_node me = started me first_rows

abbrev pub full_node : NodeState ℕ
full_node = record (first_node 2) { applied = lost_and_back }

abbrev pub rested_rows : Rows ℕ
rested_rows = record (first_rows {B = ℕ}) { snapshot = Some summed_up }

-- it has learned of its own boot, and of an act of it, right after the snapshot
abbrev pub ahead_node : NodeState ℕ
ahead_node =
    record (first_node 2) {
      learner =
          record (first_node 2).learner {
            learned = record { slot = 13; entry = Boot 2 1 } ∷ record { slot = 14; entry = Item 2 1 1 1 7 } ∷ [];
          };
    }

-- the packet with a snapshot to a node, and a cut to one
abbrev pub brings : taken.Snapshot → ℕ → Event ℕ
brings s me = Deliver (packet 1 (Snapshot s) me)

abbrev pub cuts : Event ℕ
cuts = Cut 2 (Some summed_up)

-- rows with votes at the floor and above it, and the outcome of a cut
abbrev pub vote_at : ℕ → Vote ℕ
vote_at slot = record { slot = slot; ballot = record { round = 1; node = 1 }; entry = Noop }

abbrev pub voted_rows : Rows ℕ
voted_rows =
    record (first_rows {B = ℕ}) { promised = Some (record { round = 1; node = 1 }); votes = vote_at 12 ∷ vote_at 13 ∷ [] }

abbrev pub cut_outcome : Outcome ℕ
cut_outcome = resting_with summed_up false [] [] [] false 12

-- the rows that it leaves, and the same without the vote above the floor
abbrev pub cut_rows : Rows ℕ
cut_rows = accepting.adopted voted_rows cut_outcome.change

abbrev pub bare_cut_rows : Rows ℕ
bare_cut_rows = record cut_rows { votes = [] }
