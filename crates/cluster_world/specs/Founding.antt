-- The first world, as its members are put in one by one.
use Rattle.std.specs.Prelude.{◌≡◌, ℕ, suc, false, Some, List, [], slice_get, length}
use Rattle.paxos_packets.specs.declared.entry.Entry.{Entry}
use Rattle.replica_machine.specs.Replay.{Machine}
use Rattle.replica_follower.specs.Following.{Followed, Follows}
use Rattle.cluster_world.specs.Members.{MemberState, nodes_of}
use Rattle.cluster_world.specs.World.{founded, first_boots}

-- all have one content
abbrev pub AreAlike : {M S : Type 0} → (M → S) → List M → Type 0
AreAlike {M} content machines = (i j : ℕ) (a b : M) → slice_get machines i ≡ Some a → slice_get machines j ≡ Some b → content a ≡ content b

-- a member that has just begun
pub record HasBegun {B M Y : Type 0} (members : ℕ) (i : ℕ) (s : MemberState B M Y) : Type 0 where
  pub me : s.me ≡ suc i
  pub members_are : s.members ≡ members
  pub node : s.machine.node ≡ suc i
  pub log : s.machine.log.applied ≡ []
  pub told : s.machine.told ≡ []
  pub alive : s.machine.given_up ≡ false

-- the first members, and what they made
pub record AreFounded {B M Y : Type 0} (members : ℕ) (list : List (MemberState B M Y)) (made : List (Entry B)) : Type 0 where
  pub nodes : nodes_of list ≡ founded (length list)
  pub made_is : made ≡ first_boots (length list)
  pub each : (i : ℕ) (s : MemberState B M Y) → slice_get list i ≡ Some s → HasBegun members i s

-- their machines have the content to which their logs lead
abbrev pub AllFollow : {B M S Y : Type 0} → (M → S) → Machine B S Y → List (MemberState B M Y) → Type 0
AllFollow {B} {M} {S} {Y} content m list = (i : ℕ) (s : MemberState B M Y) → slice_get list i ≡ Some s → Follows content m [] s.machine

abbrev pub NoneGivenUp : {B M Y : Type 0} → List (Followed B M Y) → Type 0
NoneGivenUp {B} {M} {Y} machines = (i : ℕ) (f : Followed B M Y) → slice_get machines i ≡ Some f → f.given_up ≡ false
