-- The members of a world in code, each with its node and its machine, and what an event makes of one.
use Rattle.std.specs.Prelude.{true, false, ◌≡◌, ◌⊎◌, ◌<◌, ◌≤◌, ℕ, suc, Bool, Option, Some, None, List, ◌++◌, is_some, map, slice_get, length}
use Rattle.paxos_packets.specs.Snapshot.{floor_in}
use Rattle.paxos_packets.specs.declared.entry.Entry.{Entry}
use Rattle.paxos_packets.specs.declared.packet.Packet.{Packet}
use Rattle.paxos_packets.specs.declared.transport.Transport.{Transport}
use Rattle.paxos_node.specs.declared.event.Event.{Event}
use Rattle.paxos_node.specs.declared.event.Event.TheVariants.{Restart}
use Rattle.paxos_node.specs.Events.{outcome_of, made_by, packet_in, possible}
use Rattle.paxos_planning.specs.Node.{NodeState}
use Rattle.replica_machine.specs.Given.{AreGiven}
use Rattle.replica_machine.specs.Replay.{Machine}
use Rattle.replica_machine.specs.Snapshot.{kept_after, loaded_log}
use Rattle.replica_follower.specs.Following.{Followed, Follows, LoadsAs, handed_to}
use Rattle.replica_follower.specs.Handed.{said_in}
use Rattle.cluster_world.specs.MemberSnapshots.{octets_at, log_from, under_from, taken_over, Brings}
use Rattle.cluster_world.specs.StandsAt.{Held, HasLog, machine_at}
use Rattle.cluster_world.specs.World.{absent, node_at}

pub record MemberState (B M Y : Type 0) : Type 0 where
  pub me : ℕ
  pub members : ℕ
  pub node : NodeState B
  pub machine : Followed B M Y

abbrev pub nodes_of : {B M Y : Type 0} → List (MemberState B M Y) → List (NodeState B)
nodes_of list = map (λ s. s.node) list

abbrev pub machines_of : {B M Y : Type 0} → List (MemberState B M Y) → List (Followed B M Y)
machines_of list = map (λ s. s.machine) list

-- the member with number i + 1 is at index i
pub record AreMembers {B M Y : Type 0} (members : ℕ) (list : List (MemberState B M Y)) : Type 0 where
  pub count : length list ≡ members
  pub each : (i : ℕ) (s : MemberState B M Y) → slice_get list i ≡ Some s → (s.me ≡ suc i) × (s.members ≡ members) × (s.machine.node ≡ suc i)

abbrev pub held_of : {B M Y : Type 0} → ℕ → List (MemberState B M Y) → List (Packet B) → List (Entry B) → List ℕ → Held B M Y
held_of members list sent made first =
    record { members = members; nodes = nodes_of list; sent = sent; made = made; machines = machines_of list; first = first }

-- an event of a member: its node becomes what the event makes of it, which sends and makes this; the machine has its log
pub record Moves {B M Y : Type 0} (same : B → B → Bool) (e : Event B) (old new : MemberState B M Y) (sent later : List (Packet B))
    (made more : List (Entry B)) : Type 0 where
  pub node : new.node ≡ (outcome_of same old.members e old.node).node
  pub packets : later ≡ sent ++ (outcome_of same old.members e old.node).packets
  pub made_is : more ≡ made ++ made_by same e old.node
  pub log : HasLog new.node new.machine

-- nothing moves
pub record Unmoved {B M Y : Type 0} (old new : MemberState B M Y) (sent later : List (Packet B)) (made more : List (Entry B)) : Type 0 where
  pub node : new.node ≡ old.node
  pub packets : later ≡ sent
  pub made_is : more ≡ made
  pub log : HasLog new.node new.machine

-- an event of a member, if it is possible, and else nothing
pub record Goes {B M Y : Type 0} (same : B → B → Bool) (e : Event B) (old new : MemberState B M Y) (sent later : List (Packet B))
    (made more : List (Entry B)) : Type 0 where
  pub moves : possible e old.node ≡ true → Moves same e old new sent later made more
  pub stays : possible e old.node ≡ false → Unmoved old new sent later made more

-- what an event makes of a member's machine, which follows the log `under` up to its node's floor; `over` is the log of a snapshot that is taken
-- over: what was handed out goes on, and the machine has the content to which its log leads
pub record Happens {B M S Y : Type 0} (same : B → B → Bool) (content : M → S) (m : Machine B S Y) (e : Event B) (under over : List (Entry B))
    (old new : MemberState B M Y) : Type 0 where
  pub handed : (t : Transport) →
      said_in t new.machine.told
      ≡ said_in t old.machine.told
      ++ handed_to m t old.machine.node old.node.rows.boot
      (log_from (is_some (packet_in e)) (outcome_of same old.members e old.node).change.snapshot under over old.node.applied)
      (outcome_of same old.members e old.node).applied
  pub follows : Follows content m
      (under_from (is_some (packet_in e)) (outcome_of same old.members e old.node).change.snapshot under over old.node.applied) new.machine

-- nothing was handed out, and the machine has the content to which its log leads
pub record Rests {B M S Y : Type 0} (content : M → S) (m : Machine B S Y) (under : List (Entry B)) (old new : MemberState B M Y) : Type 0 where
  pub handed : (t : Transport) → said_in t new.machine.told ≡ said_in t old.machine.told
  pub follows : Follows content m under new.machine

-- and so of a member's machine, if the event is possible
pub record GoesOn {B M S Y : Type 0} (same : B → B → Bool) (content : M → S) (m : Machine B S Y) (e : Event B) (under over : List (Entry B))
    (old new : MemberState B M Y) : Type 0 where
  pub moves : possible e old.node ≡ true → Happens same content m e under over old new
  pub stays : possible e old.node ≡ false → Rests content m under old new

-- what is known of the snapshot, if any, that an event takes over
abbrev pub TakesOver : {B M S Y : Type 0} → (B → B → Bool) → (List ℕ → Option S) → Machine B S Y → Event B → List (Entry B) → MemberState B M Y
    → Type 0
TakesOver same loaded m e over s = Brings loaded m over (taken_over (is_some (packet_in e)) (outcome_of same s.members e s.node).change.snapshot)

-- what is known of the octets of which a machine is made at a restart
abbrev pub RestartsAt : {B M S Y : Type 0} → (List ℕ → Option S) → Machine B S Y → List ℕ → List (Entry B) → MemberState B M Y → Type 0
RestartsAt loaded m first under s = AreGiven under × LoadsAs loaded (kept_after m under) (octets_at first s.node.rows.snapshot)

-- the node is up, in the boot that it had before
abbrev pub IsInBoot : {B : Type 0} → NodeState B → NodeState B → Type 0
IsInBoot old new = (new.up ≡ true) × (new.rows.boot ≡ old.rows.boot)

-- and rests on the snapshot that it had before, if any
abbrev pub StaysThere : {B : Type 0} → NodeState B → NodeState B → Type 0
StaysThere old new = IsInBoot old new × (new.rows.snapshot ≡ old.rows.snapshot)

-- it is given up, with this log
abbrev pub IsGivenUp : {B M Y : Type 0} → List (Entry B) → Followed B M Y → Type 0
IsGivenUp log f = (f.given_up ≡ true) × (f.log.applied ≡ log)

-- a machine that is given up stays so, with its log, until its node begins another boot or takes a snapshot
abbrev pub GivenUpStay : {B M Y : Type 0} → Held B M Y → Held B M Y → Type 0
GivenUpStay {B} {M} {Y} old new =
    (i : ℕ) (f : Followed B M Y) → slice_get old.machines i ≡ Some f → f.given_up ≡ true
    → StaysThere (node_at old.nodes (suc i)) (node_at new.nodes (suc i))
    → (g : Followed B M Y) × (slice_get new.machines i ≡ Some g) × IsGivenUp f.log.applied g

-- of a node at two moments: it rests on the snapshot on which it rested, if any, or on one of a longer log
abbrev pub RestsAbove : {B : Type 0} → NodeState B → NodeState B → Type 0
RestsAbove old new = (new.rows.snapshot ≡ old.rows.snapshot) ⊎ (floor_in old.rows.snapshot < floor_in new.rows.snapshot)

-- and its boot is never a lower one, and within one boot it does not come up again
pub record IsLater {B : Type 0} (old new : NodeState B) : Type 0 where
  pub boots : old.rows.boot ≤ new.rows.boot
  pub up : IsInBoot old new → old.up ≡ true
  pub rests : RestsAbove old new

abbrev pub AreLater : {B M Y : Type 0} → Held B M Y → Held B M Y → Type 0
AreLater old new = (node : ℕ) → IsLater (node_at old.nodes node) (node_at new.nodes node)

-- of an event in a world: if it is a restart that is possible, the node's machine is given up after it only if none is made of the octets of
-- the node's snapshot, or of these without one
abbrev pub Renews : {B M S Y : Type 0} → (List ℕ → Option S) → Event B → Held B M Y → Held B M Y → Type 0
Renews {B} {M} {S} {Y} loaded e old new =
    (node : ℕ) (f : Followed B M Y) → e ≡ Restart node → possible e (node_at old.nodes node) ≡ true
    → machine_at new.machines node ≡ Some f → f.given_up ≡ true
    → loaded_log loaded (octets_at old.first (node_at old.nodes node).rows.snapshot) ≡ None

-- the node of a member, or of a number that is no member's
abbrev pub node_or_absent : {B M Y : Type 0} → Option (MemberState B M Y) → NodeState B
node_or_absent None = absent
node_or_absent (Some s) = s.node

abbrev pub machine_or_none : {B M Y : Type 0} → Option (MemberState B M Y) → Option (Followed B M Y)
machine_or_none None = None
machine_or_none (Some s) = Some s.machine
