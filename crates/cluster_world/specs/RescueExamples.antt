-- Rescues by hand in which nodes rest on snapshots, for a body that is a number.
use Rattle.std.specs.Prelude.{ℕ, None, List, [], ◌∷◌}
use Rattle.paxos_packets.specs.declared.entry.Entry.{Entry}
use Rattle.paxos_packets.specs.declared.entry.Entry.TheVariants.{Item}
use Rattle.paxos_node.specs.declared.event.Event.TheVariants.{Take, Tick, Start, Suspect, Cut, Crash, Restart}
use Rattle.world_rescue.specs.Course.{act, course}
use Rattle.world_rescue.specs.Parts.{crew_of}
use Rattle.cluster_world.specs.Examples.{same_number, nodes, run}
use Rattle.cluster_world.specs.Helpers.{seat_at, helpers_of}
use Rattle.cluster_world.specs.Scripts.{Line, Happens, Packet_no, Flush}
use Rattle.cluster_world.specs.World.{World, play}

-- the log of node 3 ends below a cut that lacks its boot
abbrev pub behind_a_cut : List (Line ℕ)
behind_a_cut =
    Happens (Crash 3) ∷ Happens (Start 1) ∷ Flush (nodes (1 ∷ 2 ∷ 3 ∷ [])) ∷ Happens (Take 1 1 10) ∷
    Flush (nodes (1 ∷ 2 ∷ 3 ∷ [])) ∷ Happens (Cut 1 None) ∷ Happens (Cut 2 None) ∷ Happens (Restart 3) ∷ []

-- the log of node 3 ends below a cut that has its boot
abbrev pub behind_own_boot : List (Line ℕ)
behind_own_boot =
    Happens (Start 1) ∷ Flush (nodes (1 ∷ 2 ∷ 3 ∷ [])) ∷ Happens (Tick 3) ∷ Flush (nodes (1 ∷ 2 ∷ 3 ∷ [])) ∷
    Happens (Take 1 1 10) ∷ Flush (nodes (1 ∷ 2 ∷ [])) ∷ Happens (Cut 1 None) ∷ []

-- it had learned an entry above the snapshot
abbrev pub learned_above : List (Line ℕ)
learned_above =
    Happens (Crash 3) ∷ Happens (Start 1) ∷ Flush (nodes (1 ∷ 2 ∷ 3 ∷ [])) ∷ Happens (Cut 1 None) ∷ Happens (Take 1 1 10) ∷
    Flush (nodes (1 ∷ 2 ∷ 3 ∷ [])) ∷ Happens (Restart 3) ∷ Happens (Tick 3) ∷ Packet_no 17 ∷ Packet_no 19 ∷ []

-- it had learned the loss of its boot above the snapshot
abbrev pub own_lost_above : List (Line ℕ)
own_lost_above =
    Happens (Start 1) ∷ Flush (nodes (1 ∷ 2 ∷ 3 ∷ [])) ∷ Happens (Cut 1 None) ∷ Happens (Crash 3) ∷ Happens (Restart 3) ∷
    Happens (Tick 3) ∷ Packet_no 13 ∷ Flush (nodes (1 ∷ 2 ∷ [])) ∷ Happens (Suspect 1 3) ∷ Flush (nodes (1 ∷ 2 ∷ [])) ∷
    Packet_no 17 ∷ Packet_no 19 ∷ Packet_no 23 ∷ Packet_no 25 ∷ Packet_no 14 ∷ []

-- the loss of its boot is proposed, and another node cut
abbrev pub cut_by_another : List (Line ℕ)
cut_by_another =
    Happens (Start 1) ∷ Flush (nodes (1 ∷ 2 ∷ 3 ∷ [])) ∷ Happens (Tick 3) ∷ Flush (nodes (1 ∷ 2 ∷ 3 ∷ [])) ∷
    Happens (Cut 1 None) ∷ Happens (Suspect 1 3) ∷ []

-- the same, and it cut as well
abbrev pub cut_by_itself : List (Line ℕ)
cut_by_itself =
    Happens (Start 1) ∷ Flush (nodes (1 ∷ 2 ∷ 3 ∷ [])) ∷ Happens (Tick 3) ∷ Flush (nodes (1 ∷ 2 ∷ 3 ∷ [])) ∷
    Happens (Cut 1 None) ∷ Happens (Cut 3 None) ∷ Happens (Suspect 1 3) ∷ []

-- two others with a floor
abbrev pub floors_of_two : List (Line ℕ)
floors_of_two =
    Happens (Start 1) ∷ Flush (nodes (1 ∷ 2 ∷ 3 ∷ [])) ∷ Happens (Take 1 1 10) ∷ Flush (nodes (1 ∷ 2 ∷ 3 ∷ [])) ∷
    Happens (Cut 2 None) ∷ Happens (Take 1 1 10) ∷ Flush (nodes (1 ∷ 2 ∷ 3 ∷ [])) ∷ Happens (Cut 3 None) ∷ Happens (Crash 1) ∷ []

-- the world after these lines and a rescue of the node, for an act 20 of its transport 1

abbrev pub rescued_in : ℕ → World ℕ → ℕ → World ℕ
rescued_in members w n =
    play same_number members
    (course same_number (crew_of members (seat_at w.nodes n) (helpers_of w.nodes n members)) (act 1 20)) w

abbrev pub rescued : ℕ → List (Line ℕ) → ℕ → World ℕ
rescued members lines n = rescued_in members (run members lines) n

-- the Item of that act, in this boot of the node
abbrev pub saved_act : ℕ → ℕ → Entry ℕ
saved_act n boot = Item n boot 1 1 20
