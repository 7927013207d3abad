-- What snapshots are to a member: what its machine is cut to, what it is made of at a restart, and the log from which it goes on.
use Rattle.std.specs.Prelude.{◌≡◌, ◌++◌, ℕ, true, false, Bool, IfSome, Option, Some, None, List, []}
use Rattle.paxos_packets.specs.Snapshot.{Snapshot, snapshot_of}
use Rattle.paxos_packets.specs.declared.entry.Entry.{Entry}
use Rattle.paxos_node.specs.declared.event.Event.{Event}
use Rattle.paxos_node.specs.declared.event.Event.TheVariants.{Cut}
use Rattle.paxos_node.specs.Events.{outcome_of, possible}
use Rattle.paxos_node.specs.Plans.{is_planned}
use Rattle.paxos_node.specs.Snapshots.{may_cut}
use Rattle.paxos_planning.specs.Node.{NodeState}
use Rattle.replica_machine.specs.Given.{AreGiven}
use Rattle.replica_machine.specs.Log.{LogState}
use Rattle.replica_machine.specs.Replay.{Machine}
use Rattle.replica_machine.specs.Snapshot.{kept_of, kept_after, kept_octets}
use Rattle.replica_follower.specs.Following.{Followed, Follows, LoadsAs}
use Rattle.cluster_world.specs.StandsAt.{HasLog}

-- what a machine's log is saved as, as a snapshot
abbrev pub own_cut : {B M S : Type 0} → (S → List ℕ) → (M → S) → LogState B M → Option Snapshot
own_cut saved content log = snapshot_of (kept_octets saved (kept_of content log))

-- the octets of which a machine is made at a restart
abbrev pub octets_at : List ℕ → Option Snapshot → List ℕ
octets_at first None = first
octets_at first (Some s) = s.octets

-- the event with these octets, if it is a Cut
abbrev pub with_octets : {B : Type 0} → Option Snapshot → Event B → Event B
with_octets snapshot (Cut n s) = Cut n snapshot
with_octets snapshot e = e

-- the event as it happens at a member: a Cut has what the machine's log is saved as, whatever it carried
abbrev pub its_event : {B M S Y : Type 0} → (S → List ℕ) → (M → S) → Followed B M Y → Event B → Event B
its_event saved content f e = with_octets (own_cut saved content f.log) e

-- whether it may happen at the node, by what its member sees: of a Cut only the machine knows
abbrev pub may_happen : {B : Type 0} → Event B → NodeState B → Bool
may_happen (Cut n s) x = x.up
may_happen e x = possible e x

-- whether the node plans it, and its machine goes on with what is applied
abbrev pub is_carried : {B : Type 0} → Event B → Bool
is_carried (Cut n s) = false
is_carried e = is_planned e

-- the snapshot that an event takes over, by the one in its change: one that came in a packet
abbrev pub taken_over : Bool → Option Snapshot → Option Snapshot
taken_over true snapshot = snapshot
taken_over false snapshot = None

-- the log after which an event applies entries, and the log up to the floor after it, by the snapshot in its change, if any: it came in a
-- packet, from the log `over`, or it is of the node's own log, of which `under` is up to the floor

abbrev pub log_from : {B : Type 0} → Bool → Option Snapshot → List (Entry B) → List (Entry B) → List (Entry B) → List (Entry B)
log_from true (Some s) under over applied = over
log_from true None under over applied = under ++ applied
log_from false snapshot under over applied = under ++ applied

abbrev pub under_from : {B : Type 0} → Bool → Option Snapshot → List (Entry B) → List (Entry B) → List (Entry B) → List (Entry B)
under_from packet None under over applied = under
under_from true (Some s) under over applied = over
under_from false (Some s) under over applied = under ++ applied

-- where a node goes on that has this change: from the log `over` that a snapshot brought, or from the one up to its floor, `under`, and the
-- entries above that

abbrev pub base_of : {B : Type 0} → Option Snapshot → List (Entry B) → List (Entry B) → List (Entry B)
base_of None under over = under
base_of (Some s) under over = over

abbrev pub above_of : {B : Type 0} → Option Snapshot → List (Entry B) → List (Entry B)
above_of None log = log
above_of (Some s) log = []

-- a snapshot, if there is one, is of the log `over`
abbrev pub Brings : {B S Y : Type 0} → (List ℕ → Option S) → Machine B S Y → List (Entry B) → Option Snapshot → Type 0
Brings loaded m over snapshot = IfSome snapshot (λ s. AreGiven over × LoadsAs loaded (kept_after m over) s.octets)

-- what is saved of this log loads as the log, if it loads
abbrev pub LoadsSaved : {B S Y : Type 0} → (S → List ℕ) → (List ℕ → Option S) → Machine B S Y → List (Entry B) → Type 0
LoadsSaved saved loaded m log = LoadsAs loaded (kept_after m log) (kept_octets saved (kept_after m log))

-- a member after a cut to this snapshot: its node is what the cut makes of it, if it is possible, and else as it was
pub record Cuts {B M Y : Type 0} (same : B → B → Bool) (me members : ℕ) (snapshot : Option Snapshot) (old new : NodeState B) (f g : Followed B M Y)
    : Type 0 where
  pub cut : may_cut snapshot old ≡ true → new ≡ (outcome_of same members (Cut me snapshot) old).node
  pub none : may_cut snapshot old ≡ false → new ≡ old
  pub log : HasLog new g
  pub told : g.told ≡ f.told

-- and its machine follows the whole log as before
abbrev pub StillFollows : {B M S Y : Type 0} → (M → S) → Machine B S Y → Option Snapshot → List (Entry B) → NodeState B → Followed B M Y → Type 0
StillFollows content m snapshot under old g =
    (may_cut snapshot old ≡ true → Follows content m (under ++ old.applied) g) × (may_cut snapshot old ≡ false → Follows content m under g)
