-- No dead end: when events bring an act to be applied at a node, and what those events lead to (docs/CONSENSUS.md, "No dead end").
use Rattle.std.specs.Prelude.{◌≡◌, ℕ, zero, suc, ◌≤◌, ◌<◌, max, Bool, true, false, not, ◌&&◌, ◌||◌, ◌==◌, nat_lt, Option, Some, None}
use Rattle.std.specs.Prelude.{Result, Err, IsOkUnless, List, ◌∷◌, [], ◌++◌, if◌then◌else◌}
use Rattle.std.specs.List.{list_any}
use Rattle.paxos_packets.specs.Members.{is_majority}
use Rattle.paxos_packets.specs.Rows.{last_boot}
use Rattle.paxos_packets.specs.Snapshot.{floor_in}
use Rattle.paxos_packets.specs.declared.entry.Entry.{Entry}
use Rattle.paxos_packets.specs.declared.entry.Entry.TheVariants.{Item}
use Rattle.paxos_proposer.specs.Proposer.{round_of}
use Rattle.paxos_planning.specs.Node.{NodeState}
use Rattle.paxos_node.specs.declared.event.Event.{Event}
use Rattle.paxos_node.specs.declared.event.Event.TheVariants.{Crash, Restart}
use Rattle.paxos_node.specs.Events.{last_number, most_pending}
use Rattle.replica_machine.specs.Effects.{is_effective}
use Rattle.cluster_world.specs.Has.{Has}
use Rattle.cluster_world.specs.World.{World, node_at, play, played, log_of}
use Rattle.world_rescue.specs.Course.{Seat, Crew, course}
use Rattle.world_rescue.specs.Reaching.{reached}
use Rattle.world_rescue.specs.Room.{IsUpTo, LeavesRoom}
use Rattle.world_rescue.specs.declared.fault.CourseFault.{CourseFault}
use Rattle.world_rescue.specs.declared.fault.CourseFault.TheVariants as crew
use Rattle.cluster_world.specs.declared.fault.RescueFault.{RescueFault}
use Rattle.cluster_world.specs.declared.fault.RescueFault.TheVariants.{NoMajority, NodeDown, NoRoom, Memory}

-- the numbers of the faults
abbrev pub rescue_fault_number : RescueFault → ℕ
rescue_fault_number NoMajority = 57
rescue_fault_number NodeDown = 58
rescue_fault_number NoRoom = 59
rescue_fault_number Memory = 60

-- the fault of a rescue whose course was not listed
abbrev pub of_course : CourseFault → RescueFault
of_course crew.NoRoom = NoRoom
of_course crew.Memory = Memory

abbrev pub is_up_at : {B : Type 0} → World B → ℕ → Bool
is_up_at w k = (node_at w.nodes k).up

abbrev pub has_majority_up : {B : Type 0} → ℕ → World B → Bool
has_majority_up members w = is_majority members (is_up_at w)

-- the greatest round that a node holds: seen, or of its promise
abbrev pub round_held : {B : Type 0} → NodeState B → ℕ
round_held x = max x.proposer.seen (round_of x.rows.promised)

-- a rescue needs rounds and slots after these: 2^48 - 8 and 2^40 - 4,097; up to its floor a node has no slot left either
unfoldable pub last_rescue_round : ℕ
last_rescue_round = 281474976710648

unfoldable pub last_rescue_slot : ℕ
last_rescue_slot = 1099511623679

abbrev pub is_crowded : {B : Type 0} → NodeState B → Bool
is_crowded x =
    x.up
    && (nat_lt last_rescue_round (round_held x)
    || (list_any (λ v. nat_lt last_rescue_slot v.slot) x.rows.votes || nat_lt last_rescue_slot (floor_in x.rows.snapshot)))

abbrev pub any_member : ℕ → (ℕ → Bool) → Bool
any_member zero test = false
any_member (suc n) test = any_member n test || test (suc n)

-- why there is no rescue of node n, by the first cause
abbrev pub rescue_refused : {B : Type 0} → ℕ → World B → ℕ → Option RescueFault
rescue_refused members w n =
    if not (has_majority_up members w) then Some NoMajority
    else if not (is_up_at w n) then Some NodeDown
    else if any_member members (λ k. is_crowded (node_at w.nodes k)) then Some NoRoom
    else None

-- it is refused for this cause, and else only if memory runs out
abbrev pub Refuses : {A : Type 0} → Option RescueFault → Result A RescueFault → Type 0
Refuses None result = IsOkUnless result Memory
Refuses (Some fault) result = result ≡ Err fault

-- these seats are of different nodes, none of them n
abbrev pub Apart : {B : Type 0} → ℕ → List (Seat B) → Type 0
Apart n [] = Unit {0}
Apart {B} n (s ∷ ss) = (s.number ≡ n → ⊥) × ((t : Seat B) → Has ss t → t.number ≡ s.number → ⊥) × Apart n ss

-- it is the crew of a rescue of node n in this world: the node and other nodes that are up, a majority with it
pub record IsCrew {B : Type 0} (members : ℕ) (w : World B) (n : ℕ) (c : Crew B) : Type 0 where
  pub members_is : c.members ≡ members
  pub number : c.own.number ≡ n
  pub own : node_at w.nodes n ≡ c.own.node
  pub apart : Apart n c.helpers
  pub are : (s : Seat B) → Has c.helpers s → node_at w.nodes s.number ≡ s.node
  pub ups : (s : Seat B) → Has c.helpers s → s.node.up ≡ true
  pub enough : is_majority members (λ k. (n == k) || list_any (λ (s : Seat B). s.number == k) c.helpers) ≡ true

-- what a rescue asks of its caller: a number of a transport, an act that the node can still take in its boot, and a boot after it, since it may
-- have to restart once
pub record MayBeRescued {B : Type 0} (x : NodeState B) (number : ℕ) : Type 0 where
  pub number_is : 1 ≤ number
  pub acts : x.taken < last_number
  pub boots : x.rows.boot < last_boot

-- the node's log ends with an Item of this act that takes effect, of the node's boot then
pub record EndsWithAct {B : Type 0} (w : World B) (n number : ℕ) (body : B) : Type 0 where
  pub before : List (Entry B)
  pub item : ℕ
  pub is : log_of w n ≡ before ++ Item n (node_at w.nodes n).rows.boot item number body ∷ []
  pub takes_effect : is_effective before (Item n (node_at w.nodes n).rows.boot item number body) ≡ true

-- the events restart the node at most once, and no other; they crash no other, and the node right before that
pub record RestartsOnce {B : Type 0} (events : List (Event B)) (n : ℕ) : Type 0 where
  pub none_crashes : (k : ℕ) → Has events (Crash k) → k ≡ n
  pub crashes : (early later : List (Event B)) → events ≡ early ++ Crash n ∷ later → (rest : List (Event B)) × (later ≡ Restart n ∷ rest)
  pub own : (k : ℕ) → Has events (Restart k) → k ≡ n
  pub once : (early later : List (Event B)) → events ≡ early ++ Restart n ∷ later → Has later (Restart n) → ⊥

-- what `World::rescue` promises; each other node that is up stays up
pub record Rescues {B : Type 0} (same : B → B → Bool) (members : ℕ) (w : World B) (n number : ℕ) (body : B)
    (events : List (Event B)) : Type 0
  where
    pub ends : EndsWithAct (play same members events w) n number body
    pub restarts : RestartsOnce events n
    pub stay_up : (k : ℕ) → (k ≡ n → ⊥) → is_up_at w k ≡ true → is_up_at (play same members events w) k ≡ true

-- no world that events lead to is a dead end: what a rescue does, where it is not refused
abbrev pub NoDeadEnd : (B : Type 0) → (B → B → Bool) → Type 0
NoDeadEnd B same =
    (members : ℕ) → 3 ≤ members → members ≤ 7 → (events : List (Event B)) (n number : ℕ) (body : B) (c : Crew B) →
    IsCrew members (played same members events) n c → rescue_refused members (played same members events) n ≡ None →
    MayBeRescued (node_at (played same members events).nodes n) number →
    Rescues same members (played same members events) n number body (course same c (record { transport = number; body = body }))

-- the rounds and slots that a crew holds once its node is level leave room for a course; before that the node begins a ballot more
abbrev pub HasRoom : {B : Type 0} → Crew B → Type 0
HasRoom c =
    IsUpTo (suc last_rescue_round) last_rescue_slot most_pending (reached c)
    × LeavesRoom (suc last_rescue_round) last_rescue_slot most_pending

-- and so it is where a rescue is not refused
abbrev pub RescuesHaveRoom : (B : Type 0) → (B → B → Bool) → Type 0
RescuesHaveRoom B same =
    (members : ℕ) → 3 ≤ members → members ≤ 7 → (events : List (Event B)) (n : ℕ) (c : Crew B) →
    IsCrew members (played same members events) n c → rescue_refused members (played same members events) n ≡ None → HasRoom c
