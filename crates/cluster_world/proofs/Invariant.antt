-- What holds in every world.
use Rattle.std.proofs.Common.{◌≡◌, ℕ, suc, ◌<◌, ◌≤◌, Bool, true, List, [], ◌∷◌, Option, Some}
use Rattle.cluster_world.proofs.Order.{Lt, Le, Reaches, Over}
use Rattle.paxos_packets.specs.Members.{IsMajority, IsMember, is_in}
use Rattle.paxos_packets.specs.Snapshot.{floor_in}
use Rattle.paxos_packets.specs.Snapshot as taken
use Rattle.cluster_world.specs.Has.{Has}
use Rattle.paxos_proposer.specs.declared.promises.CountedPromise.{CountedPromise}
use Rattle.paxos_proposer.specs.Role.{Role, Idle, Preparing, Leading}
use Rattle.paxos_learner.specs.declared.tallies.SlotBallot.{SlotBallot}
use Rattle.paxos_learner.specs.declared.learned.LearnedEntry.{LearnedEntry}
use Rattle.paxos_planning.specs.Node.{NodeState}
use Rattle.paxos_proposer.specs.Proposer.{slot_end, next_vote}
use Rattle.paxos_packets.specs.declared.ballot.Ballot.{Ballot}
use Rattle.paxos_packets.specs.declared.packet.Kind.{Kind}
use Rattle.paxos_packets.specs.declared.packet.Packet.{Packet}
use Rattle.paxos_packets.specs.declared.rows.Rows.{Rows}
use Rattle.paxos_packets.specs.declared.vote.Vote.{Vote}
use Rattle.paxos_packets.specs.declared.packet.Kind.TheVariants.{Prepare, Promise, Accept, Accepted, Nack, Forward, Ask, Learned, Snapshot}
use Rattle.paxos_packets.specs.declared.entry.Entry.{Entry}

abbrev pub vote : {B : Type 0} → ℕ → Ballot → Entry B → Vote B
vote s b e = record { slot = s; ballot = b; entry = e }

-- k sent this, to some node
pub record Sent {B : Type 0} (sent : List (Packet B)) (k : ℕ) (kind : Kind B) : Type 0 where
  pub to : ℕ
  pub is : Has sent (record { sender = k; addressee = to; kind = kind })

-- some node sent this
pub record Known {B : Type 0} (sent : List (Packet B)) (kind : Kind B) : Type 0 where
  pub by : ℕ
  pub is : Sent sent by kind

-- what w may be above in the same slot, below b, where e is proposed
pub record Carried {B : Type 0} (sent : List (Packet B)) (v w : Vote B) : Type 0 where
  pub ballot : Ballot
  pub above : Le w.ballot ballot
  pub under : Lt ballot v.ballot
  pub known : Known sent (Accept (vote v.slot ballot v.entry))

-- k promised v's ballot, and each vote of k in v's slot below it leads to v's entry
pub record Backs {B : Type 0} (promised : ℕ → Option Ballot) (sent : List (Packet B)) (v : Vote B) (k : ℕ) : Type 0 where
  pub reaches : Reaches (promised k) v.ballot
  pub carries : (w : Vote B) → w.slot ≡ v.slot → Lt w.ballot v.ballot → Sent sent k (Accepted w) → Carried sent v w

-- a majority backs v
pub record Safe {B : Type 0} (members : ℕ) (promised : ℕ → Option Ballot) (sent : List (Packet B)) (v : Vote B) : Type 0 where
  pub quorum : ℕ → Bool
  pub most : IsMajority members quorum
  pub backs : (k : ℕ) → IsMember members k → quorum k ≡ true → Backs promised sent v k

-- k promised b and never voted below it in the slot
pub record Clear {B : Type 0} (promised : ℕ → Option Ballot) (sent : List (Packet B)) (b : Ballot) (slot : ℕ) (k : ℕ) : Type 0 where
  pub reaches : Reaches (promised k) b
  pub never : (w : Vote B) → w.slot ≡ slot → Lt w.ballot b → Sent sent k (Accepted w) → ⊥

pub record Free {B : Type 0} (members : ℕ) (promised : ℕ → Option Ballot) (sent : List (Packet B)) (b : Ballot) (slot : ℕ) : Type 0 where
  pub quorum : ℕ → Bool
  pub most : IsMajority members quorum
  pub clear : (k : ℕ) → IsMember members k → quorum k ≡ true → Clear promised sent b slot k

-- a vote of this list that is as high as w, in w's slot
pub record Tops {B : Type 0} (votes : List (Vote B)) (w : Vote B) : Type 0 where
  pub best : Vote B
  pub is : Has votes best
  pub slot : best.slot ≡ w.slot
  pub high : Le w.ballot best.ballot

-- what a promise of k says, from a slot on, and above a floor
pub record Tells {B : Type 0} (promised : ℕ → Option Ballot) (sent : List (Packet B)) (k : ℕ) (b : Ballot) (first floor : ℕ)
    (votes : List (Vote B)) : Type 0 where
  pub reaches : Reaches (promised k) b
  pub told : (w : Vote B) → first ≤ w.slot → floor < w.slot → Lt w.ballot b → Sent sent k (Accepted w) → Tops votes w
  pub low : (u : Vote B) → Has votes u → Lt u.ballot b
  pub known : (u : Vote B) → Has votes u → Known sent (Accept u)

pub record Told {B : Type 0} (promised : ℕ → Option Ballot) (sent : List (Packet B)) (k : ℕ) (b : Ballot) (floor : ℕ)
    (votes : List (Vote B)) : Type 0 where
  pub first : ℕ
  pub asked : Known sent (Prepare b first)
  pub tells : Tells promised sent k b first floor votes

pub record IsChosen {B : Type 0} (members : ℕ) (sent : List (Packet B)) (slot : ℕ) (entry : Entry B) : Type 0 where
  pub ballot : Ballot
  pub quorum : ℕ → Bool
  pub most : IsMajority members quorum
  pub voted : (k : ℕ) → IsMember members k → quorum k ≡ true → Sent sent k (Accepted (vote slot ballot entry))

-- packets

pub record PacketsOk {B : Type 0} (members : ℕ) (promised : ℕ → Option Ballot) (sent : List (Packet B)) : Type 0 where
  pub safe : (v : Vote B) → Known sent (Accept v) → Safe members promised sent v
  pub one : (v w : Vote B) → Known sent (Accept v) → Known sent (Accept w) → v.slot ≡ w.slot → v.ballot ≡ w.ballot → v.entry ≡ w.entry
  pub low : (v : Vote B) → Known sent (Accept v) → Reaches (promised v.ballot.node) v.ballot
  pub voted : (k : ℕ) (v : Vote B) → Sent sent k (Accepted v) → Known sent (Accept v)
  pub asked_one : (b : Ballot) (f g : ℕ) → Known sent (Prepare b f) → Known sent (Prepare b g) → f ≡ g
  pub asked_low : (b : Ballot) (f : ℕ) → Known sent (Prepare b f) → Reaches (promised b.node) b
  pub told : (k : ℕ) (b : Ballot) (floor : ℕ) (votes : List (Vote B)) → Sent sent k (Promise b floor votes)
      → Told promised sent k b floor votes
  pub learned : (slot : ℕ) (entry : Entry B) → Known sent (Learned slot entry) → IsChosen members sent slot entry

-- nodes

pub record PreparingOk {B : Type 0} (promised : ℕ → Option Ballot) (mine : Option Ballot) (sent : List (Packet B)) (k : ℕ) (b : Ballot)
    (first : ℕ) (promises : List (CountedPromise B)) : Type 0 where
  pub owner : b.node ≡ k
  pub exact : mine ≡ Some b
  pub only : (g : ℕ) → Known sent (Prepare b g) → g ≡ first
  pub asked : Known sent (Prepare b first)
  pub none : (v : Vote B) → Known sent (Accept v) → v.ballot ≡ b → ⊥
  pub kept : (c : CountedPromise B) → Has promises c → Tells promised sent c.node b first c.floor c.votes

-- a leader proposes above its own floor
pub record LeadingOk {B : Type 0} (mine : Option Ballot) (own_floor : ℕ) (sent : List (Packet B)) (k : ℕ) (b : Ballot) (next : ℕ)
    (table : List (Vote B)) : Type 0 where
  pub owner : b.node ≡ k
  pub exact : mine ≡ Some b
  pub high : own_floor < next
  pub made : (v : Vote B) → Known sent (Accept v) → v.ballot ≡ b → v.slot < next
  pub own : (v : Vote B) → Has table v → Known sent (Accept v)
  pub owned : (v : Vote B) → Has table v → v.ballot ≡ b

abbrev pub RoleOk : {B : Type 0} → (ℕ → Option Ballot) → Option Ballot → ℕ → List (Packet B) → ℕ → Role B → Type 0
RoleOk promised mine own_floor sent k Idle = Unit {0}
RoleOk promised mine own_floor sent k (Preparing b first promises) = PreparingOk promised mine sent k b first promises
RoleOk promised mine own_floor sent k (Leading b next table) = LeadingOk mine own_floor sent k b next table

-- if a leader goes on, no member of some majority voted below it
abbrev pub RoleFree : {B : Type 0} → ℕ → (ℕ → Option Ballot) → List (Packet B) → Role B → Type 0
RoleFree members promised sent Idle = Unit {0}
RoleFree members promised sent (Preparing b first promises) = Unit {0}
RoleFree {B} members promised sent (Leading b next table) =
    (slot : ℕ) → next ≤ slot → slot < slot_end → Free {B = B} members promised sent b slot

pub record RowsOk {B : Type 0} (sent : List (Packet B)) (k : ℕ) (rows : Rows B) : Type 0 where
  pub reached : (w : Vote B) → Sent sent k (Accepted w) → Reaches rows.promised w.ballot
  pub tops : (w : Vote B) → Sent sent k (Accepted w) → ((s : taken.Snapshot) → rows.snapshot ≡ Some s → s.floor < w.slot)
      → Tops rows.votes w
  pub above : (s : taken.Snapshot) → rows.snapshot ≡ Some s → (u : Vote B) → Has rows.votes u → s.floor < u.slot
  pub low : (u : Vote B) → Has rows.votes u → Reaches rows.promised u.ballot
  pub known : (u : Vote B) → Has rows.votes u → Known sent (Accept u)

pub record VoteOf {B : Type 0} (sent : List (Packet B)) (p : SlotBallot) (k : ℕ) : Type 0 where
  pub entry : Entry B
  pub is : Sent sent k (Accepted (vote p.slot p.ballot entry))

pub record NodeOk {B : Type 0} (members : ℕ) (promised : ℕ → Option Ballot) (sent : List (Packet B)) (k : ℕ) (x : NodeState B) : Type 0
  where
    pub rows : RowsOk sent k x.rows
    pub role : RoleOk promised x.rows.promised (floor_in x.rows.snapshot) sent k x.proposer.role
    pub heard : (t : SlotBallot × List Bool) → Has x.learner.heard t → (j : ℕ) → is_in t.1 j ≡ true → VoteOf sent t.0 j
    pub learned : (f : LearnedEntry B) → Has x.learner.learned f → IsChosen members sent f.slot f.entry

abbrev pub promises : {B : Type 0} → (ℕ → NodeState B) → ℕ → Option Ballot
promises at k = (at k).rows.promised

pub record Inv {B : Type 0} (members : ℕ) (at : ℕ → NodeState B) (sent : List (Packet B)) : Type 0 where
  pub packets : PacketsOk members (promises at) sent
  pub nodes : (k : ℕ) → NodeOk members (promises at) sent k (at k)

-- what only grows
pub record Grows {B : Type 0} (promised now : ℕ → Option Ballot) (sent later : List (Packet B)) : Type 0 where
  pub more : (p : Packet B) → Has sent p → Has later p
  pub higher : (k : ℕ) (b : Ballot) → Reaches (promised k) b → Reaches (now k) b
  pub still : (k : ℕ) (v : Vote B) → Over (promised k) v.ballot → Sent later k (Accepted v) → Sent sent k (Accepted v)

-- what n may send

pub record NewPrepare {B : Type 0} (now : ℕ → Option Ballot) (later : List (Packet B)) (n : ℕ) (b : Ballot) (first : ℕ) : Type 0 where
  pub owner : b.node ≡ n
  pub reaches : Reaches (now n) b
  pub one : (g : ℕ) → Known later (Prepare b g) → g ≡ first

pub record NewAccept {B : Type 0} (members : ℕ) (now : ℕ → Option Ballot) (later : List (Packet B)) (n : ℕ) (v : Vote B) : Type 0 where
  pub owner : v.ballot.node ≡ n
  pub reaches : Reaches (now n) v.ballot
  pub safe : Safe members now later v
  pub one : (w : Vote B) → Known later (Accept w) → v.slot ≡ w.slot → v.ballot ≡ w.ballot → v.entry ≡ w.entry

abbrev pub KindOk : {B : Type 0} → ℕ → (ℕ → Option Ballot) → List (Packet B) → ℕ → Kind B → Type 0
KindOk members now later n (Prepare b first) = NewPrepare now later n b first
KindOk members now later n (Promise b floor votes) = Told now later n b floor votes
KindOk members now later n (Accept v) = NewAccept members now later n v
KindOk members now later n (Accepted v) = Known later (Accept v)
KindOk members now later n (Nack b p) = Unit {0}
KindOk members now later n (Forward es) = Unit {0}
KindOk members now later n (Ask s) = Unit {0}
KindOk members now later n (Learned s e) = IsChosen members later s e
KindOk members now later n (Snapshot s) = Unit {0}

-- the entries of these slot_end may be proposed
abbrev pub AllSafe : {B : Type 0} → ℕ → (ℕ → Option Ballot) → List (Packet B) → Ballot → ℕ → List (Entry B) → Type 0
AllSafe members promised sent b slot [] = Unit {0}
AllSafe members promised sent b slot (e ∷ es) =
    Safe members promised sent (next_vote b slot e) × AllSafe members promised sent b (suc slot) es
