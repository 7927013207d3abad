-- What is pending at a node: Losts, and what the node owes, which is its own Boot until its boot is live by its log, and the acts that did
-- not take effect (docs/CONSENSUS.md, "One node").
use Rattle.std.specs.Prelude.{◌≡◌, ℕ, suc, ◌≤◌, Bool, true, false, not, List, [], ◌∷◌, filter, drop, length, if◌then◌else◌}
use Rattle.paxos_packets.specs.declared.entry.Entry.{Entry}
use Rattle.paxos_packets.specs.declared.entry.Entry.TheVariants.{Noop, Boot, Lost, Item}
use Rattle.replica_machine.specs.Effects.{is_the, live_boot, items_taken}
use Rattle.paxos_node.specs.declared.event.Event.{Event}
use Rattle.paxos_node.specs.Applying.{down}
use Rattle.paxos_node.specs.Events.{most_pending}
use Rattle.cluster_world.specs.Has.{Has}
use Rattle.cluster_world.specs.Origins.{Act, acts_of}
use Rattle.cluster_world.specs.World.{World, node_at, played, log_of}

-- it is the loss of some boot
abbrev pub is_any_lost : {B : Type 0} → Entry B → Bool
is_any_lost Noop = false
is_any_lost (Boot n b) = false
is_any_lost (Lost n b) = true
is_any_lost (Item n b q t x) = false

-- the acts that a node took in a boot after `taken` others, as its Items
abbrev pub items_after : {B : Type 0} → ℕ → ℕ → ℕ → List (Act B) → List (Entry B)
items_after n b taken [] = []
items_after n b taken (a ∷ acts) = Item n b (suc taken) a.transport a.body ∷ items_after n b (suc taken) acts

-- what node n owes: while its boot isn't live by its log, its Boot and all acts of the boot; then the acts after those that took effect
abbrev pub owed : {B : Type 0} → ℕ → List (Entry B) → ℕ → List (Act B) → List (Entry B)
owed n log boot acts =
    if is_the (live_boot n log) boot
    then items_after n boot (items_taken n log) (drop (items_taken n log) acts)
    else Boot n boot ∷ items_after n boot 0 acts

-- what is pending at node n, Losts apart
abbrev pub pending_own : {B : Type 0} → World B → ℕ → List (Entry B)
pending_own w n = filter (λ e. not (is_any_lost e)) (node_at w.nodes n).pending

-- what is pending at a node that is up is what it owes, in this order, and Losts
abbrev pub PendingIsOwed : (B : Type 0) → (B → B → Bool) → Type 0
PendingIsOwed B same =
    (members : ℕ) → members ≤ 7 → (events : List (Event B)) (n : ℕ) → (node_at (played same members events).nodes n).up ≡ true →
    pending_own (played same members events) n
    ≡ owed n (log_of (played same members events) n) (node_at (played same members events).nodes n).rows.boot
    (acts_of n (node_at (played same members events).nodes n).rows.boot (played same members events).made)

-- a node has taken the acts of its boot, and counts them
abbrev pub TakenAreCounted : (B : Type 0) → (B → B → Bool) → Type 0
TakenAreCounted B same =
    (members : ℕ) (events : List (Event B)) (n : ℕ) → (node_at (played same members events).nodes n).up ≡ true →
    length (acts_of n (node_at (played same members events).nodes n).rows.boot (played same members events).made)
    ≡ (node_at (played same members events).nodes n).taken

-- a Lost that is pending names another node, and a boot that is live by the log
pub record NamesLive {B : Type 0} (n : ℕ) (log : List (Entry B)) (k b : ℕ) : Type 0 where
  pub other : k ≡ n → ⊥
  pub live : is_the (live_boot k log) b ≡ true

abbrev pub PendingLostsAreLive : (B : Type 0) → (B → B → Bool) → Type 0
PendingLostsAreLive B same =
    (members : ℕ) → members ≤ 7 → (events : List (Event B)) (n k b : ℕ) → Has (node_at (played same members events).nodes n).pending (Lost k b) →
    NamesLive n (log_of (played same members events) n) k b

-- no more than this many are pending
abbrev pub PendingIsFew : (B : Type 0) → (B → B → Bool) → Type 0
PendingIsFew B same =
    (members : ℕ) (events : List (Event B)) (n : ℕ) → length (node_at (played same members events).nodes n).pending ≤ most_pending

-- a node that is down has its rows alone
abbrev pub DownIsRows : (B : Type 0) → (B → B → Bool) → Type 0
DownIsRows B same =
    (members : ℕ) (events : List (Event B)) (n : ℕ) → (node_at (played same members events).nodes n).up ≡ false →
    node_at (played same members events).nodes n ≡ down (node_at (played same members events).nodes n).rows
