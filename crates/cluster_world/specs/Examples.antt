-- Runs by hand, for a body that is a number.
use Rattle.std.specs.Prelude.{ℕ, zero, suc, Bool, ◌==◌, List, [], ◌∷◌, ◌++◌, fold}
use Rattle.paxos_packets.specs.declared.packet.Packet.{Packet}
use Rattle.paxos_node.specs.declared.event.Event.TheVariants.{Take, Tick, Start, Suspect, Crash, Restart}
use Rattle.cluster_world.specs.World.{World, node_at, log_of, handed}
use Rattle.cluster_world.specs.Scripts.{Line, Happens, Packet_no, Flush, run_script}
use Rattle.paxos_packets.specs.Members.{no_nodes, set_with}
use Rattle.paxos_packets.specs.Packet.{packet}
use Rattle.paxos_packets.specs.declared.ballot.Ballot.{Ballot}
use Rattle.paxos_packets.specs.declared.vote.Vote.{Vote}
use Rattle.paxos_packets.specs.declared.entry.Entry.{Entry}
use Rattle.paxos_packets.specs.declared.entry.Entry.TheVariants.{Noop, Boot, Lost, Item}
use Rattle.paxos_packets.specs.declared.packet.Kind.TheVariants.{Prepare, Promise, Accept, Accepted}
use Rattle.replica_machine.specs.Examples.{adding, transport}
use Rattle.replica_machine.specs.SnapshotExamples.{eight}
use Rattle.paxos_packets.specs.declared.transport.Transport.{Transport}

abbrev pub same_number : ℕ → ℕ → Bool
same_number m n = m == n

abbrev pub nodes : List ℕ → List Bool
nodes ns = fold set_with no_nodes ns

-- the machine that adds up saves its sum as eight octets
abbrev pub run : ℕ → List (Line ℕ) → World ℕ
run members lines = (run_script eight adding same_number members lines).world

-- one session through three nodes: two acts of a transport of node 2
abbrev pub one_session : List (Line ℕ)
one_session =
    Happens (Start 1) ∷ Flush (nodes (1 ∷ 2 ∷ 3 ∷ [])) ∷ Happens (Take 2 1 10) ∷ Happens (Take 2 1 11) ∷ Flush (nodes (1 ∷ 2 ∷ 3 ∷ [])) ∷ []

-- the leader crashes once one other has voted, and another leads
abbrev pub leader_crash : List (Line ℕ)
leader_crash =
    Happens (Start 1) ∷ Packet_no 1 ∷ Packet_no 3 ∷ Packet_no 5 ∷ Happens (Crash 1) ∷ Happens (Start 2) ∷ Packet_no 11 ∷ Packet_no 12 ∷
    Flush (nodes (2 ∷ 3 ∷ [])) ∷ []

-- the second act of a node is reported without the first
abbrev pub hung_before_boot : List (Line ℕ)
hung_before_boot =
    Happens (Start 1) ∷ Packet_no 1 ∷ Packet_no 3 ∷ Happens (Take 1 1 10) ∷ Happens (Take 1 1 11) ∷ Packet_no 5 ∷ Packet_no 13 ∷ Happens
    (Crash 1)
    ∷ Happens (Start 2) ∷ Packet_no 21 ∷ Packet_no 22 ∷ Packet_no 9 ∷ Flush (nodes (2 ∷ 3 ∷ [])) ∷ []

-- of four nodes two are no majority
abbrev pub asked_in_vain : List (Line ℕ)
asked_in_vain = Happens (Start 1) ∷ Packet_no 1 ∷ Packet_no 4 ∷ Packet_no 2 ∷ Packet_no 5 ∷ Packet_no 6 ∷ Packet_no 12 ∷ []

abbrev pub asked_again : List (Line ℕ)
asked_again = asked_in_vain ++ Packet_no 7 ∷ Packet_no 15 ∷ []

-- a node is lost with its acts, and comes back
abbrev pub lost_node : List (Line ℕ)
lost_node =
    Happens (Start 1) ∷ Flush (nodes (1 ∷ 2 ∷ 3 ∷ [])) ∷ Happens (Take 3 1 10) ∷ Happens (Take 3 1 11) ∷ Happens (Take 3 1 12) ∷ Flush
    (nodes (1 ∷ 2 ∷ 3 ∷ []))
    ∷ Happens (Suspect 1 3) ∷ Flush (nodes (1 ∷ 2 ∷ 3 ∷ [])) ∷ Happens (Restart 3) ∷ Happens (Tick 3) ∷ Flush (nodes (1 ∷ 2 ∷ 3 ∷ []))
    ∷ Happens (Take 2 1 20) ∷ Happens (Take 2 1 21) ∷ Happens (Take 2 1 22) ∷ Flush (nodes (1 ∷ 2 ∷ 3 ∷ [])) ∷ []

-- two nodes want to lead
abbrev pub duel : List (Line ℕ)
duel =
    Happens (Start 1) ∷ Happens (Start 2) ∷ Packet_no 1 ∷ Packet_no 5 ∷ Packet_no 3 ∷ Packet_no 6 ∷ Happens (Start 1) ∷ Packet_no 11 ∷
    Packet_no 13 ∷ Packet_no 7
    ∷ Flush (nodes (1 ∷ 2 ∷ 3 ∷ [])) ∷ []

-- the expected result of each, as written down beforehand

abbrev pub session_log : List (Entry ℕ)
session_log = Boot 1 1 ∷ Boot 2 1 ∷ Item 2 1 1 1 10 ∷ Item 2 1 2 1 11 ∷ []

abbrev pub after_crash_log : List (Entry ℕ)
after_crash_log = Boot 1 1 ∷ Boot 2 1 ∷ []

abbrev pub hung_log : List (Entry ℕ)
hung_log = Boot 1 1 ∷ Noop ∷ Item 1 1 2 1 11 ∷ Boot 2 1 ∷ []

abbrev pub lost_log : List (Entry ℕ)
lost_log =
    Boot 1 1 ∷ Boot 3 1 ∷ Item 3 1 1 1 10 ∷ Item 3 1 2 1 11 ∷ Item 3 1 3 1 12 ∷ Lost 3 1 ∷ Boot 3 2 ∷ Boot 2 1
    ∷ Item 2 1 1 1 20 ∷ Item 2 1 2 1 21 ∷ Item 2 1 3 1 22 ∷ []

abbrev pub duel_log : List (Entry ℕ)
duel_log = Boot 2 1 ∷ Boot 1 1 ∷ []

-- all packets of the leader that crashes and the one that follows it

abbrev pub ballot : ℕ → ℕ → Ballot
ballot round node = record { round = round; node = node }

abbrev pub boot_vote : ℕ → Ballot → ℕ → Vote ℕ
boot_vote slot b node = record { slot = slot; ballot = b; entry = Boot node 1 }

abbrev pub crash_packets : List (Packet ℕ)
crash_packets =
    let first = ballot 1 1 in
    let second = ballot 2 2 in
    let old = boot_vote 1 first 1 in
    let again = boot_vote 1 second 1 in
    let own = boot_vote 2 second 2 in
    packet 1 (Prepare first 1) 2 ∷ packet 1 (Prepare first 1) 3 ∷ packet 2 (Promise first 0 []) 1
    ∷ packet 1 (Accept old) 2 ∷ packet 1 (Accept old) 3 ∷ packet 1 (Accepted old) 2 ∷ packet 1 (Accepted old) 3
    ∷ packet 3 (Accepted old) 1 ∷ packet 3 (Accepted old) 2
    ∷ packet 2 (Prepare second 1) 1 ∷ packet 2 (Prepare second 1) 3 ∷ packet 3 (Promise second 0 (old ∷ [])) 2
    ∷ packet 2 (Accept again) 1 ∷ packet 2 (Accept again) 3 ∷ packet 2 (Accepted again) 1 ∷ packet 2 (Accepted again) 3
    ∷ packet 2 (Accept own) 1 ∷ packet 2 (Accept own) 3 ∷ packet 2 (Accepted own) 1 ∷ packet 2 (Accepted own) 3
    ∷ packet 3 (Accepted again) 1 ∷ packet 3 (Accepted again) 2 ∷ packet 3 (Accepted own) 1 ∷ packet 3 (Accepted own) 2 ∷ []

-- the logs of the nodes from 1 on, and whether they are up

abbrev pub logs : World ℕ → ℕ → List (List (Entry ℕ))
logs w zero = []
logs w (suc n) = logs w n ++ log_of w (suc n) ∷ []

abbrev pub ups : World ℕ → ℕ → List Bool
ups w zero = []
ups w (suc n) = ups w n ++ (node_at w.nodes (suc n)).up ∷ []

-- the sums that a transport was handed by a machine that adds up
abbrev pub sums : List (Transport × ℕ) → List ℕ
sums [] = []
sums (y ∷ ys) = y.1 ∷ sums ys

abbrev pub sums_handed : ℕ → ℕ → ℕ → World ℕ → List ℕ
sums_handed n b number w = sums (handed adding (transport n b number) w)
