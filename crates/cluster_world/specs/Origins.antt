-- Where the entries of a log come from: at most once, and as they were taken (docs/CONSENSUS.md, "What holds over every list of
-- events").
use Rattle.std.specs.Prelude.{◌≡◌, ℕ, suc, ◌≤◌, Bool, true, ◌&&◌, ◌==◌, Option, Some, None, List, [], ◌∷◌, ◌++◌, slice_get, if◌then◌else◌}
use Rattle.std.specs.List.{filter_map}
use Rattle.paxos_packets.specs.Members.{IsMember}
use Rattle.cluster_world.specs.Has.{Has}
use Rattle.paxos_packets.specs.declared.entry.Entry.{Entry}
use Rattle.paxos_packets.specs.declared.entry.Entry.TheVariants.{Noop, Boot, Lost, Item}
use Rattle.replica_machine.specs.Effects.{live_boot}
use Rattle.replica_machine.specs.Given.{AreGiven}
use Rattle.paxos_node.specs.declared.event.Event.{Event}
use Rattle.paxos_node.specs.declared.event.Event.TheVariants.{Suspect}
use Rattle.paxos_node.specs.Events.{has_room, made_by}
use Rattle.cluster_world.specs.World.{node_at, played, log_of}

-- an act that a node took: of which transport, and what
pub record Act (B : Type 0) : Type 0 where
  pub transport : ℕ
  pub body : B

abbrev pub act_in : {B : Type 0} → ℕ → ℕ → Entry B → Option (Act B)
act_in n b Noop = None
act_in n b (Boot k c) = None
act_in n b (Lost k c) = None
act_in n b (Item k c q t x) = if (k == n) && (c == b) then Some (record { transport = t; body = x }) else None

-- the acts that a node took in a boot, in order
abbrev pub acts_of : {B : Type 0} → ℕ → ℕ → List (Entry B) → List (Act B)
acts_of n b made = filter_map (act_in n b) made

-- each Item in a log is the act, with transport and body, that its node took under that number, from 1, in that boot
abbrev pub ItemsWereTaken : (B : Type 0) → (B → B → Bool) → Type 0
ItemsWereTaken B same =
    (members : ℕ) (events : List (Event B)) (node n b q t : ℕ) (x : B) →
    Has (log_of (played same members events) node) (Item n b q t x) →
    (j : ℕ) × (q ≡ suc j) × (slice_get (acts_of n b (played same members events).made) j ≡ Some (record { transport = t; body = x }))

-- a Boot in a log names a boot that its node, a member, had
abbrev pub BootsWereHad : (B : Type 0) → (B → B → Bool) → Type 0
BootsWereHad B same =
    (members : ℕ) (events : List (Event B)) (node n b : ℕ) →
    Has (log_of (played same members events) node) (Boot n b) →
    IsMember members n × (1 ≤ b) × (b ≤ (node_at (played same members events).nodes n).rows.boot)

-- a Lost in a log comes from a suspicion: at some earlier moment another node than the lost one suspected it; that boot was live in the log of
-- the node that did, which had room; this made the Lost, and it was pending there after the event
pub record Suspected {B : Type 0} (same : B → B → Bool) (members : ℕ) (events : List (Event B)) (n b : ℕ) : Type 0 where
  pub early : List (Event B)
  pub by : ℕ
  pub later : List (Event B)
  pub is : events ≡ early ++ Suspect by n ∷ later
  pub other : by ≡ n → ⊥
  pub live : live_boot n (log_of (played same members early) by) ≡ Some b
  pub room : has_room (node_at (played same members early).nodes by) ≡ true
  pub made : made_by same (Suspect by n) (node_at (played same members early).nodes by) ≡ Lost n b ∷ []
  pub pending : Has (node_at (played same members (early ++ Suspect by n ∷ [])).nodes by).pending (Lost n b)

abbrev pub LostsWereSuspected : (B : Type 0) → (B → B → Bool) → Type 0
LostsWereSuspected B same =
    (members : ℕ) → members ≤ 7 → (events : List (Event B)) (node n b : ℕ) → Has (log_of (played same members events) node) (Lost n b)
    → Suspected same members events n b

-- each entry of a log names a node from 1 to 7 and a boot from 1 on, and an Item a number and a transport from 1 on; so what a log is saved as
-- is read again as that log (`LoadedStands` of `replica_machine`)
abbrev pub LogsAreGiven : (B : Type 0) → (B → B → Bool) → Type 0
LogsAreGiven B same =
    (members : ℕ) → members ≤ 7 → (events : List (Event B)) (node : ℕ) → AreGiven (log_of (played same members events) node)
