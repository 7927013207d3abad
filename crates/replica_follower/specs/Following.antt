-- One node's machine as it follows its node: the log that its node has applied in its boot, and what the transports of its node were handed
-- (docs/CONSENSUS.md, "A node's machine").
use Rattle.std.specs.Prelude.{◌≡◌, ◌⊎◌, ℕ, ◌<◌, ◌≤◌, Bool, true, false, ◌&&◌, ◌==◌, Option, IfSome, List, [], filter, length, take, if◌then◌else◌}
use Rattle.paxos_packets.specs.declared.entry.Entry.{Entry}
use Rattle.paxos_packets.specs.declared.transport.Transport.{Transport}
use Rattle.paxos_packets.specs.Transport.{same_transport}
use Rattle.replica_machine.specs.Log.{LogState, IsLogOf, steps_of}
use Rattle.replica_machine.specs.Replay.{Machine, sayings_behind}
use Rattle.replica_machine.specs.Snapshot.{Kept, loaded_log}
use Rattle.replica_follower.specs.declared.handed.Told.{Told}

-- the node's number; the log that it has applied in its boot, with the machine that follows it; whether the machine is given up; and what
-- each transport of the node was handed
pub record Followed (B M Y : Type 0) : Type 0 where
  pub node : ℕ
  pub log : LogState B M
  pub given_up : Bool
  pub told : List (Transport × Told Y)

-- what is said to the transport, in order
abbrev pub said_to : {Y : Type 0} → (Y → Transport) → Transport → List Y → List Y
said_to to t ys = filter (λ y. same_transport (to y) t) ys

-- what is said to transports that the node has in this boot
abbrev pub is_of : ℕ → ℕ → Transport → Bool
is_of node boot t = (t.node == node) && (t.boot == boot)

abbrev pub said_in_boot : {Y : Type 0} → (Y → Transport) → ℕ → ℕ → List Y → List Y
said_in_boot to node boot ys = filter (λ y. is_of node boot (to y)) ys

-- what a transport is handed when its node, in this boot, applies entries after a log
abbrev pub handed_to : {B S Y : Type 0} → Machine B S Y → Transport → ℕ → ℕ → List (Entry B) → List (Entry B) → List Y
handed_to m t node boot log entries = if (node == t.node) && (boot == t.boot) then said_to m.to t (sayings_behind m log entries) else []

-- unless the machine is given up, the log is one whose entries up to the floor are these: its machine has the content that all lead to
abbrev pub Follows : {B M S Y : Type 0} → (M → S) → Machine B S Y → List (Entry B) → Followed B M Y → Type 0
Follows content m under f = f.given_up ≡ false → IsLogOf (steps_of m) content m.first under f.log

-- if a log is made of these octets, it is one of which this is kept
abbrev pub LoadsAs : {S : Type 0} → (List ℕ → Option S) → Kept S → List ℕ → Type 0
LoadsAs loaded kept octets = IfSome (loaded_log loaded octets) (λ made. made ≡ kept)

-- the log with the first of its entries alone
abbrev pub up_to : {B M : Type 0} → ℕ → LogState B M → LogState B M
up_to stands log = record log { applied = take stands log.applied }

-- the machine was given an entry after the first `stands`, which its node has: the log holds it, or failed at it
abbrev pub HasHeard : {B M : Type 0} → ℕ → LogState B M → Type 0
HasHeard stands applied = (applied.failed ≡ true) ⊎ (stands < length applied.applied)

-- the log holds the entries that the node has, and nothing ahead of them; if the machine is not given up it holds no more; and it is given up
-- only after it was given an entry that its node does not have, or where its node stands at the log's floor
pub record IsHeld {B M : Type 0} (stands : ℕ) (applied : LogState B M) (given_up : Bool) : Type 0 where
  pub within : stands ≤ length applied.applied
  pub ahead : applied.ahead ≡ []
  pub whole : given_up ≡ false → length applied.applied ≡ stands
  pub heard : given_up ≡ true → HasHeard stands applied ⊎ (stands ≡ 0)
