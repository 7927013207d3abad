-- A player between two lines. This is for private clauses.
use Rattle.std.specs.Prelude.{◌≡◌, ◌<◌, ℕ, Bool, true, false, Option, Some, None, List, length, map, fold}
use Rattle.std.specs.List.{enumerate_from}
use Rattle.paxos_packets.specs.declared.packet.Packet.{Packet}
use Rattle.realm_acts.specs.declared.act.Act.{Act}
use Rattle.realm_acts.specs.Act.{same_act}
use Rattle.realm_machine.specs.Config.{Config}
use Rattle.realm_machine.specs.Content.{empty}
use Rattle.realm_machine.specs.Realm.{State}
use Rattle.script_program.specs.declared.player.waiting.Sent.{Sent}
use Rattle.script_program.specs.Waiting.{Packets, with_sent}
use Rattle.cluster_world.specs.Scripts.{Stage, is_delivered, first_due, deliver, flush}
use Rattle.script_program.specs.declared.player.Player.{Player}
use Rattle.script_program.specs.Playing.{IsBehind, world_behind}

-- a realm without transports
abbrev pub first_realm : Config → State
first_realm config = record { config = config; content = Some (empty config.limits) }

-- a packet that was sent, with its number, as it waits once lines have delivered those with these numbers
abbrev pub wait_of : List ℕ → ℕ × Packet Act → Sent
wait_of delivered e = record { sender = e.1.sender; addressee = e.1.addressee; is_delivered = is_delivered delivered e.0 }

abbrev pub waits_from : ℕ → List ℕ → List (Packet Act) → List Sent
waits_from number delivered sent = map (wait_of delivered) (enumerate_from number sent)

-- the player's world is where the script is, and what waits are the packets that this world has sent
pub record IsAt (config : Config) (members : ℕ) (p : Player) (s : Stage Act) : Type 0 where
  pub members_are : p.world.members ≡ members
  pub stands : IsBehind config p.world s.events
  pub is_played : s.world ≡ world_behind config members s.events
  pub few : p.waiting.members ≡ members
  pub waits : p.waiting.sent ≡ waits_from 1 s.delivered s.world.sent
  pub fresh : (number : ℕ) → length s.world.sent < number → is_delivered s.delivered number ≡ false

-- ---- packets that are sent

abbrev pub send_one : Packets → Packet Act → Packets
send_one w p = with_sent p.sender p.addressee w

abbrev pub send_if : Option (Packet Act) → Packets → Packets
send_if None w = w
send_if (Some p) w = send_one w p

abbrev pub send_all : List (Packet Act) → Packets → Packets
send_all ps w = fold send_one w ps

-- ---- a flush

-- the first packet that was due was delivered, or none was
abbrev pub DeliversFirst : Config → ℕ → List Bool → Bool → Stage Act → Player → Type 0
DeliversFirst config members among false s p = (first_due members among s ≡ None) × IsAt config members p s
DeliversFirst config members among true s p =
    (e : ℕ × Packet Act) × (first_due members among s ≡ Some e) × IsAt config members p (deliver same_act members e.0 e.1 s)

-- at most this many packets of a flush are left
pub record IsFlushing (config : Config) (members : ℕ) (among : List Bool) (more : ℕ) (p : Player) (whole : Stage Act) : Type 0 where
  pub stage : Stage Act
  pub is_at : IsAt config members p stage
  pub rest : flush same_act members among more stage ≡ whole
