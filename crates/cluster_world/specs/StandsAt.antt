-- What callers see of a world in code, and when it is the world that events lead to (docs/CONSENSUS.md, "The world").
use Rattle.std.specs.Prelude.{◌≡◌, ℕ, zero, suc, Bool, true, Option, Some, None, List, [], slice_get, replicate}
use Rattle.paxos_packets.specs.declared.entry.Entry.{Entry}
use Rattle.paxos_packets.specs.declared.packet.Packet.{Packet}
use Rattle.paxos_packets.specs.declared.transport.Transport.{Transport}
use Rattle.paxos_node.specs.declared.event.Event.{Event}
use Rattle.paxos_planning.specs.Node.{NodeState}
use Rattle.replica_machine.specs.declared.roll.Standing.TheVariants.{Unknown}
use Rattle.replica_machine.specs.Replay.{Machine}
use Rattle.replica_machine.specs.Snapshot.{Kept}
pub use Rattle.replica_follower.specs.Following.{LoadsAs}
use Rattle.replica_follower.specs.Following.{Followed, Follows}
use Rattle.replica_follower.specs.Handed.{said_in}
use Rattle.cluster_world.specs.Has.{Has}
use Rattle.cluster_world.specs.Saving.{kept_after, played_of}
use Rattle.cluster_world.specs.World.{Cut, World, node_at, under, played, handed}

-- its members; its nodes from number 1 on; every packet ever sent, oldest first; every act, boot and suspicion; the machines of the nodes, each
-- with the log that it followed and with what it was made to hand out; and the octets of which a machine is made at a restart
pub record Held (B M Y : Type 0) : Type 0 where
  pub members : ℕ
  pub nodes : List (NodeState B)
  pub sent : List (Packet B)
  pub made : List (Entry B)
  pub machines : List (Followed B M Y)
  pub first : List ℕ

-- what a transport was handed: what its own node's machine was made to hand out to it
abbrev pub told_by : {B M Y : Type 0} → Option (Followed B M Y) → Transport → List Y
told_by None t = []
told_by (Some f) t = said_in t f.told

abbrev pub machine_at : {A : Type 0} → List A → ℕ → Option A
machine_at machines zero = None
machine_at machines (suc i) = slice_get machines i

abbrev pub handed_in : {B M Y : Type 0} → Held B M Y → Transport → List Y
handed_in w t = told_by (machine_at w.machines t.node) t

-- it handed something to transports of its own node alone
abbrev pub HandsToOwn : {B M Y : Type 0} → ℕ → Followed B M Y → Type 0
HandsToOwn node f = (t : Transport) → (t.node ≡ node → ⊥) → said_in t f.told ≡ []

-- while the node is up, the machine has the entries of its log above the floor
abbrev pub HasLog : {B M Y : Type 0} → NodeState B → Followed B M Y → Type 0
HasLog x f = x.up ≡ true → f.log.applied ≡ x.applied

-- it shows this world: nodes, packets, and what was made; and each machine has its node's log
pub record Shows {B M Y : Type 0} (w : Held B M Y) (v : World B) : Type 0 where
  pub nodes : w.nodes ≡ v.nodes
  pub sent : w.sent ≡ v.sent
  pub made : w.made ≡ v.made
  pub logs : (i : ℕ) (f : Followed B M Y) → slice_get w.machines i ≡ Some f → HasLog (node_at w.nodes (suc i)) f

-- what is kept of the empty log, with the first content
abbrev pub empty_kept : {S : Type 0} → S → Kept S
empty_kept first = record { floor = 0; standings = replicate 7 Unknown; content = first }

-- a restart makes a log of these octets that has the first content, or none
abbrev pub LoadsFirst : {S : Type 0} → (List ℕ → Option S) → S → List ℕ → Type 0
LoadsFirst loaded first octets = LoadsAs loaded (empty_kept first) octets

-- what a node's log is up to its floor, in a world
abbrev pub under_at : {B : Type 0} → World B → ℕ → List (Entry B)
under_at v k = under v.cuts (node_at v.nodes k).rows.snapshot

-- it is this world: it shows it, and what the machine `m` hands to each transport; each node's machine has the content to which its whole log
-- leads, unless it is given up; and so has what is made of a snapshot, or at a restart without one
pub record StandsIn {B M S Y : Type 0} (content : M → S) (loaded : List ℕ → Option S) (m : Machine B S Y) (w : Held B M Y) (v : World B) : Type 0 where
  pub shows : Shows w v
  pub handed : (t : Transport) → handed_in w t ≡ handed m t v
  pub own : (i : ℕ) (f : Followed B M Y) → slice_get w.machines i ≡ Some f → HandsToOwn (suc i) f
  pub follows : (i : ℕ) (f : Followed B M Y) → slice_get w.machines i ≡ Some f → Follows content m (under_at v (suc i)) f
  pub loads : LoadsFirst loaded m.first w.first
  pub cuts : (c : Cut B) → Has v.cuts c → LoadsAs loaded (kept_after m c.log) c.snapshot.octets

-- it shows the world that these events lead to, whose Cuts have their octets
abbrev pub ShowsAt : {B M Y : Type 0} → (B → B → Bool) → Held B M Y → List (Event B) → Type 0
ShowsAt same w events = Shows w (played same w.members events)

-- and it is the one that these lead to, if each Cut has what is saved
abbrev pub StandsAt : {B M S Y : Type 0} → (B → B → Bool) → (M → S) → (S → List ℕ) → (List ℕ → Option S) → Machine B S Y → Held B M Y
    → List (Event B) → Type 0
StandsAt same content saved loaded m w events = StandsIn content loaded m w (played_of saved m same w.members events)

-- of machines: each has this content
abbrev pub HaveContent : {M S : Type 0} → (M → S) → S → List M → Type 0
HaveContent {M} content first machines = (i : ℕ) (a : M) → slice_get machines i ≡ Some a → content a ≡ first
