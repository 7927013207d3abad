-- Runs by hand in which nodes cut and take snapshots, for a body that is a number.
use Rattle.std.specs.Prelude.{ℕ, zero, suc, Bool, true, false, None, List, [], ◌∷◌, ◌++◌}
use Rattle.paxos_packets.specs.declared.entry.Entry.{Entry}
use Rattle.paxos_packets.specs.declared.entry.Entry.TheVariants.{Boot, Lost, Item}
use Rattle.replica_machine.specs.declared.roll.Standing.{Standing}
use Rattle.replica_machine.specs.Roll.{takes_by, standings_after}
use Rattle.paxos_node.specs.declared.event.Event.TheVariants.{Take, Tick, Start, Suspect, Cut, Crash, Restart}
use Rattle.paxos_node.specs.Applying.{base}
use Rattle.cluster_world.specs.Examples.{nodes, run}
use Rattle.cluster_world.specs.Scripts.{Line, Happens, Packet_no, Flush}
use Rattle.cluster_world.specs.World.{World, node_at, floor_of, entries_of}

-- a node that was down for long
abbrev pub long_down : List (Line ℕ)
long_down =
    Happens (Crash 3) ∷ Happens (Start 1) ∷ Flush (nodes (1 ∷ 2 ∷ 3 ∷ [])) ∷ Happens (Take 1 1 10) ∷ Flush (nodes (1 ∷ 2 ∷ 3 ∷ [])) ∷
    Happens (Cut 1 None) ∷ Happens (Cut 2 None) ∷ Happens (Restart 3) ∷ Happens (Tick 3) ∷ Flush (nodes (1 ∷ 2 ∷ 3 ∷ [])) ∷
    Happens (Start 2) ∷ Flush (nodes (1 ∷ 2 ∷ 3 ∷ [])) ∷ Happens (Tick 3) ∷ Flush (nodes (1 ∷ 2 ∷ 3 ∷ [])) ∷ []

-- a cut raises a leader's next slot
abbrev pub raised_next : List (Line ℕ)
raised_next =
    Happens (Start 1) ∷ Packet_no 1 ∷ Happens (Start 3) ∷ Packet_no 5 ∷ Packet_no 6 ∷ Happens (Take 3 1 10) ∷ Packet_no 8 ∷
    Packet_no 12 ∷ Packet_no 9 ∷ Packet_no 13 ∷ Packet_no 15 ∷ Packet_no 17 ∷ Packet_no 3 ∷ Happens (Cut 1 None) ∷
    Happens (Take 1 1 10) ∷ Happens (Start 2) ∷ Flush (nodes (1 ∷ 2 ∷ [])) ∷ []

-- a cut between a start and its majority
abbrev pub cut_before_majority : List (Line ℕ)
cut_before_majority =
    Happens (Start 1) ∷ Packet_no 1 ∷ Packet_no 3 ∷ Packet_no 4 ∷ Happens (Start 1) ∷ Packet_no 8 ∷ Happens (Cut 1 None) ∷
    Packet_no 11 ∷ Packet_no 12 ∷ Happens (Take 1 1 10) ∷ Flush (nodes (1 ∷ 2 ∷ 3 ∷ [])) ∷ []

-- the present boot
abbrev pub own_boot : List (Line ℕ)
own_boot =
    Happens (Start 1) ∷ Flush (nodes (1 ∷ 2 ∷ 3 ∷ [])) ∷ Happens (Tick 3) ∷ Flush (nodes (1 ∷ 2 ∷ 3 ∷ [])) ∷ Happens (Take 1 1 10) ∷
    Flush (nodes (1 ∷ 2 ∷ [])) ∷ Happens (Cut 1 None) ∷ Happens (Tick 3) ∷ Packet_no 30 ∷ Packet_no 32 ∷ []

abbrev pub own_boot_left : List (Line ℕ)
own_boot_left =
    own_boot ++ Happens (Crash 3) ∷ Happens (Restart 3) ∷ Happens (Tick 3) ∷ Packet_no 32 ∷ []

-- two floors in one majority
abbrev pub two_floors : List (Line ℕ)
two_floors =
    Happens (Start 1) ∷ Flush (nodes (1 ∷ 2 ∷ 3 ∷ [])) ∷ Happens (Take 1 1 10) ∷ Flush (nodes (1 ∷ 2 ∷ 3 ∷ [])) ∷
    Happens (Cut 2 None) ∷ Happens (Take 1 1 10) ∷ Flush (nodes (1 ∷ 2 ∷ 3 ∷ [])) ∷ Happens (Cut 3 None) ∷ Happens (Crash 1) ∷
    Happens (Start 5) ∷ Flush (nodes (2 ∷ 3 ∷ 5 ∷ [])) ∷ []

abbrev pub two_floors_asked : List (Line ℕ)
two_floors_asked =
    two_floors ++ Happens (Tick 5) ∷ Flush (nodes (2 ∷ 3 ∷ 5 ∷ [])) ∷ []

-- an Accept below a floor
abbrev pub accept_below : List (Line ℕ)
accept_below =
    Happens (Start 1) ∷ Flush (nodes (1 ∷ 2 ∷ [])) ∷ Happens (Take 1 1 10) ∷ Flush (nodes (1 ∷ 2 ∷ [])) ∷ Happens (Cut 2 None) ∷
    Happens (Start 3) ∷ Packet_no 16 ∷ Packet_no 18 ∷ Packet_no 20 ∷ Packet_no 31 ∷ Flush (nodes (1 ∷ 2 ∷ 3 ∷ [])) ∷ []

-- repeated and overtaken
abbrev pub overtaken : List (Line ℕ)
overtaken =
    Happens (Crash 3) ∷ Happens (Start 1) ∷ Flush (nodes (1 ∷ 2 ∷ 3 ∷ [])) ∷ Happens (Cut 1 None) ∷ Happens (Take 1 1 10) ∷
    Flush (nodes (1 ∷ 2 ∷ 3 ∷ [])) ∷ Happens (Cut 2 None) ∷ Happens (Restart 3) ∷ Happens (Tick 3) ∷ Packet_no 16 ∷ Packet_no 17 ∷
    Packet_no 20 ∷ Packet_no 20 ∷ Packet_no 18 ∷ Packet_no 19 ∷ []

-- its own Lost above a snapshot
abbrev pub lost_above : List (Line ℕ)
lost_above =
    Happens (Start 1) ∷ Flush (nodes (1 ∷ 2 ∷ 3 ∷ [])) ∷ Happens (Cut 1 None) ∷ Happens (Crash 3) ∷ Happens (Restart 3) ∷
    Happens (Tick 3) ∷ Packet_no 13 ∷ Flush (nodes (1 ∷ 2 ∷ [])) ∷ Happens (Suspect 1 3) ∷ Flush (nodes (1 ∷ 2 ∷ [])) ∷ Packet_no 17 ∷
    Packet_no 19 ∷ Packet_no 23 ∷ Packet_no 25 ∷ Packet_no 14 ∷ Packet_no 32 ∷ []

-- a pending Lost is dropped
abbrev pub lost_dropped : List (Line ℕ)
lost_dropped =
    Happens (Start 1) ∷ Flush (nodes (1 ∷ 2 ∷ 3 ∷ [])) ∷ Happens (Tick 3) ∷ Flush (nodes (1 ∷ 2 ∷ 3 ∷ [])) ∷ Happens (Suspect 2 3) ∷
    Happens (Crash 3) ∷ Happens (Restart 3) ∷ Happens (Tick 3) ∷ Flush (nodes (1 ∷ 3 ∷ [])) ∷ Happens (Cut 1 None) ∷ Happens (Tick 2) ∷
    Packet_no 37 ∷ Packet_no 39 ∷ Happens (Tick 2) ∷ Packet_no 40 ∷ Packet_no 43 ∷ Packet_no 45 ∷ Packet_no 47 ∷ []

-- a restart at the floor
abbrev pub at_the_floor : List (Line ℕ)
at_the_floor =
    Happens (Start 1) ∷ Flush (nodes (1 ∷ 2 ∷ 3 ∷ [])) ∷ Happens (Cut 2 None) ∷ Happens (Crash 2) ∷ Happens (Take 1 1 10) ∷
    Happens (Restart 2) ∷ Flush (nodes (1 ∷ 2 ∷ 3 ∷ [])) ∷ []

-- what is shown of a node: whether it is up, its floor, and each entry above it, with whether it took effect

pub record Shown : Type 0 where
  pub up : Bool
  pub floor : ℕ
  pub entries : List (Entry ℕ × Bool)

abbrev pub with_effect : (ℕ → Standing) → List (Entry ℕ) → List (Entry ℕ × Bool)
with_effect stands [] = []
with_effect stands (e ∷ es) = (e, takes_by stands e) ∷ with_effect (standings_after stands e) es

abbrev pub shown : World ℕ → ℕ → Shown
shown w k =
    record {
      up = (node_at w.nodes k).up;
      floor = floor_of w k;
      entries = with_effect (base (node_at w.nodes k).rows) (entries_of w k);
    }

-- a node that is up with this floor, and with entries that all took effect
abbrev pub all_took : List (Entry ℕ) → List (Entry ℕ × Bool)
all_took [] = []
all_took (e ∷ es) = (e, true) ∷ all_took es

abbrev pub up_at : ℕ → List (Entry ℕ) → Shown
up_at floor es = record { up = true; floor = floor; entries = all_took es }

-- the expected entries, as written down beforehand

abbrev pub item : ℕ → ℕ → Entry ℕ
item node number = Item node 1 number 1 10
