-- What a machine says to the transports of a node in one of its boots.
use Rattle.std.specs.Prelude.{ℕ, Bool, ◌&&◌, ◌==◌, List, filter}
use Rattle.paxos_packets.specs.declared.entry.Entry.{Entry}
use Rattle.paxos_packets.specs.declared.transport.Transport.{Transport}
use Rattle.replica_machine.specs.Replay.{Machine, sayings_behind}

-- a transport of this node in this boot
abbrev pub is_of : ℕ → ℕ → Transport → Bool
is_of node boot t = (t.node == node) && (t.boot == boot)

-- what a machine that follows a log says, at entries after it, to the transports of a node in a boot, in order
abbrev pub handed_out : {B S Y : Type 0} → Machine B S Y → ℕ → ℕ → List (Entry B) → List (Entry B) → List Y
handed_out m node boot log entries = filter (λ y. is_of node boot (m.to y)) (sayings_behind m log entries)
