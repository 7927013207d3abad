-- What a pass of a rescue leaves: the node that leads with all that it proposed in its log, or down, and helpers that cast all of it.
use Rattle.std.proofs.Common.{◌≡◌, ◌⊎◌, ℕ, suc, ◌+◌, ◌≤◌, Bool, true, false, List, [], ◌++◌, length, Option, Some}
use Rattle.cluster_world.proofs.Casting.{AreEights}
use Rattle.cluster_world.proofs.Passing.{Ready}
use Rattle.cluster_world.proofs.Slots.{AreAfter}
use Rattle.cluster_world.specs.Has.{Has}
use Rattle.paxos_packets.specs.Body.{IsEquality}
use Rattle.paxos_packets.specs.Members.{IsMember, IsMajority, is_in}
use Rattle.paxos_packets.specs.Packet.{packet}
use Rattle.paxos_packets.specs.Snapshot.{Snapshot, floor_in}
use Rattle.paxos_packets.specs.Vote.{put_votes}
use Rattle.paxos_packets.specs.declared.ballot.Ballot.{Ballot}
use Rattle.paxos_packets.specs.declared.entry.Entry.{Entry}
use Rattle.paxos_packets.specs.declared.entry.Entry.TheVariants.{Noop}
use Rattle.paxos_packets.specs.declared.packet.Kind.TheVariants.{Accept}
use Rattle.paxos_packets.specs.declared.vote.Vote.{Vote}
use Rattle.paxos_learner.specs.Tallies.{place_of, nodes_heard}
use Rattle.paxos_proposer.specs.Role.{Role, Leading}
use Rattle.paxos_node.specs.Adopting.{pending_behind}
use Rattle.paxos_node.specs.Applying.{stands_at, down, has_end}
use Rattle.paxos_planning.specs.Node.{NodeState}
use Rattle.replica_machine.specs.declared.roll.Standing.{Standing}
use Rattle.replica_machine.specs.Roll.{standings_from}
use Rattle.cluster_world.specs.World.{World, node_at}
use Rattle.world_rescue.specs.Course.{Seat, entries_of, propose_all, propose_new}

-- what counts of a node as a ballot begins: its snapshot, its log above it, what is pending, its boot, the acts that it took in it, and its votes
pub record Kept (B : Type 0) : Type 0 where
  pub snapshot : Option Snapshot
  pub log : List (Entry B)
  pub pending : List (Entry B)
  pub boot : ℕ
  pub taken : ℕ
  pub votes : List (Vote B)

abbrev pub kept_of : {B : Type 0} → NodeState B → Kept B
kept_of x =
    record {
      snapshot = x.rows.snapshot;
      log = x.applied;
      pending = x.pending;
      boot = x.rows.boot;
      taken = x.taken;
      votes = x.rows.votes;
    }

-- the length of its log, and where the nodes stand after it
abbrev pub long_of : {B : Type 0} → Kept B → ℕ
long_of k = floor_in k.snapshot + length k.log

abbrev pub stands_of : {B : Type 0} → Kept B → ℕ → Standing
stands_of k = standings_from (stands_at k.snapshot) k.log

-- a vote that the node or a helper had then
abbrev pub IsVoteOf : {B : Type 0} → Kept B → List (Seat B) → (Seat B → List (Vote B)) → Vote B → Type 0
IsVoteOf {B} k seats had v = Has k.votes v ⊎ ((s : Seat B) × Has seats s × Has (had s) v)

-- the entry is no act, or was voted for
abbrev pub WasReported : {B : Type 0} → Kept B → List (Seat B) → (Seat B → List (Vote B)) → Entry B → Type 0
WasReported {B} k seats had e = (e ≡ Noop) ⊎ ((v : Vote B) × IsVoteOf k seats had v × (v.entry ≡ e))

module _ {B : Type 0} (same : B → B → Bool) (equal : IsEquality same) (members : ℕ) (two : 2 ≤ members) (n : ℕ)
    (member : IsMember members n)
    (round : ℕ) (seats : List (Seat B)) where
  abbrev pub ballot_of : Ballot
  ballot_of = record { round = round; node = n }

  -- the node goes on: all that it proposed is in its log
  pub record RodeOn (k : Kept B) (role : Role B) (vs : List (Vote B)) (z : NodeState B) : Type 0 where
    pub up : z.up ≡ true
    pub level : z.learner.floor ≡ floor_in k.snapshot
    pub role_is : z.proposer.role ≡ role
    pub taken : z.taken ≡ k.taken
    pub log : z.applied ≡ k.log ++ entries_of vs
    pub pending : z.pending ≡ pending_behind (stands_of k) (entries_of vs) k.pending
    pub ends : has_end n k.boot (stands_of k n) (entries_of vs) ≡ false
    pub eights : AreEights z.learner.heard
    pub heard : (v : Vote B) → Has vs v → is_in (nodes_heard (place_of v) z.learner.heard) n ≡ true

  -- or it went down: the loss of its boot is among it
  pub record WentDown (k : Kept B) (vs : List (Vote B)) (z : NodeState B) : Type 0 where
    pub down_is : z ≡ down z.rows
    pub ends : has_end n k.boot (stands_of k n) (entries_of vs) ≡ true

  -- a helper has cast them all; who made the node lead has no vote after them
  pub record PassDone (k : Kept B) (had : Seat B → List (Vote B)) (most : ℕ) (role : Role B) (vs : List (Vote B))
      (q : World B) : Type 0 where
    pub helpers : (s : Seat B) → Has seats s
        → Ready same equal members two n member round (node_at q.nodes n) s.number s.node.rows.snapshot (put_votes vs (had s))
        (node_at q.nodes s.number)
    pub next : ℕ
    pub role_is : role ≡ Leading ballot_of next vs
    pub next_is : next ≡ suc (long_of k + length vs)
    pub bound : next ≤ most
    pub after : AreAfter (long_of k) vs
    pub called : List (Entry B)
    pub made : role ≡ propose_new same (long_of k) k.pending (propose_all called (Leading ballot_of (suc (long_of k)) []))
    pub reported : (e : Entry B) → Has called e → WasReported k seats had e
    pub crew : ℕ → Bool
    pub enough : IsMajority members crew
    pub in_crew : (j : ℕ) → crew j ≡ true → (j ≡ n) ⊎ ((s : Seat B) × Has seats s × (s.number ≡ j))
    pub short : (j : ℕ) (v : Vote B) → crew j ≡ true → Has (node_at q.nodes j).rows.votes v → v.slot ≤ long_of k + length vs
    pub boot : (node_at q.nodes n).rows.boot ≡ k.boot
    pub base : (node_at q.nodes n).rows.snapshot ≡ k.snapshot
    pub promised : (node_at q.nodes n).rows.promised ≡ Some ballot_of
    pub votes : (node_at q.nodes n).rows.votes ≡ put_votes vs k.votes
    pub mine : (v : Vote B) → Has vs v → v.ballot ≡ ballot_of
    pub out : (v : Vote B) → Has vs v → (j : ℕ) → IsMember members j → (j ≡ n → ⊥) → Has q.sent (packet n (Accept v) j)
    pub fate : RodeOn k role vs (node_at q.nodes n) ⊎ WentDown k vs (node_at q.nodes n)
