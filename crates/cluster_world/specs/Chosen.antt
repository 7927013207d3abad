-- When an entry is chosen: no counters and no learners, only the packets ever sent (Lamport 2001, section 2.1).
use Rattle.std.specs.Prelude.{◌≡◌, ℕ, Bool, true, List}
use Rattle.paxos_packets.specs.Members.{IsMajority, IsMember}
use Rattle.cluster_world.specs.Has.{Has}
use Rattle.paxos_packets.specs.declared.ballot.Ballot.{Ballot}
use Rattle.paxos_packets.specs.declared.entry.Entry.{Entry}
use Rattle.paxos_packets.specs.declared.packet.Kind.{Kind}
use Rattle.paxos_packets.specs.declared.packet.Kind.TheVariants.{Accepted}
use Rattle.paxos_packets.specs.declared.packet.Packet.{Packet}

-- the node sent this to some node
abbrev pub WasSent : {B : Type 0} → List (Packet B) → ℕ → Kind B → Type 0
WasSent sent node kind = (to : ℕ) × Has sent (record { sender = node; addressee = to; kind = kind })

-- each member of some majority sent an Accepted of the entry in this slot, all in one ballot
abbrev pub Chosen : {B : Type 0} → ℕ → List (Packet B) → ℕ → Entry B → Type 0
Chosen members sent slot entry =
    (b : Ballot) × (q : ℕ → Bool) × IsMajority members q
    × ((k : ℕ) → IsMember members k → q k ≡ true → WasSent sent k (Accepted (record { slot = slot; ballot = b; entry = entry })))
