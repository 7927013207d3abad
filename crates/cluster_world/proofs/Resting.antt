-- A node that rests on a snapshot, its own or another's, keeps the invariant.
use Rattle.std.proofs.Common.{◌≡◌, ℕ, suc, ◌<◌, ◌≤◌, Bool, true, false, refl, sym, subst, arith, List, [], ◌++◌, Option, Some}
use Rattle.std.specs.Prelude.{nat_le, nat_lt}
use Rattle.std.proofs.lemmas.Bool.{leb-true}
use Rattle.cluster_world.proofs.Lists.{has_filter, has_passes}
use Rattle.cluster_world.proofs.AcceptorTests.{from_has, has_from}
use Rattle.cluster_world.proofs.Invariant.{RowsOk, RoleOk, RoleFree, NodeOk, promises}
use Rattle.cluster_world.proofs.Growth.{role_free_grows}
use Rattle.cluster_world.proofs.WithNode.{with_node, mine_ok}
use Rattle.cluster_world.proofs.Proposals.{silent, State, Going, FreeAt}
use Rattle.cluster_world.specs.Has.{Has}
use Rattle.paxos_packets.specs.Body.{IsEquality}
use Rattle.paxos_packets.specs.Snapshot.{Snapshot, floor_in}
use Rattle.paxos_packets.specs.Vote.{votes_from}
use Rattle.paxos_packets.specs.declared.ballot.Ballot.{Ballot}
use Rattle.paxos_packets.specs.declared.packet.Packet.{Packet}
use Rattle.paxos_packets.specs.declared.rows.Rows.{Rows}
use Rattle.paxos_packets.specs.declared.vote.Vote.{Vote}
use Rattle.paxos_acceptor.specs.Acceptor.{with_snapshot}
use Rattle.paxos_proposer.specs.Proposer.{raised_above}
use Rattle.paxos_proposer.specs.Role.{Role, Idle, Preparing, Leading}
use Rattle.paxos_planning.specs.Node.{NodeState, Plan}
use Rattle.paxos_node.specs.Applying.{keep_wanted}
use Rattle.paxos_node.specs.Snapshots.{resting_on, rest_on}

from_high : {B : Type 0} (first : ℕ) (votes : List (Vote B)) (u : Vote B) → Has (votes_from first votes) u → first ≤ u.slot
from_high {B} first votes u h = leb-true first u.slot (has_passes (λ (v : Vote B). nat_le first v.slot) votes h)

-- what it leaves alone
pub record Rested {B : Type 0} (s : Snapshot) (t u : Plan B) : Type 0 where
  pub boot : u.node.rows.boot ≡ t.node.rows.boot
  pub base : u.node.rows.snapshot ≡ Some s
  pub up : u.node.up ≡ t.node.up
  pub log : u.node.applied ≡ []
  pub news : u.applied ≡ t.applied
  pub cut : u.change.snapshot ≡ Some s
  pub acts : u.node.taken ≡ t.node.taken

pub rest_is : {B : Type 0} (over : Bool) (s : Snapshot) (t : Plan B) → Rested s t (rest_on over s t)
rest_is false s t = record { boot = refl; base = refl; up = refl; log = refl; news = refl; cut = refl; acts = refl }
rest_is true s t = record { boot = refl; base = refl; up = refl; log = refl; news = refl; cut = refl; acts = refl }

module _ {B : Type 0} (s : Snapshot) where
  -- no vote above the floor is forgotten, and none at or below it is left
  rested_rows : (sent : List (Packet B)) (n : ℕ) (rows : Rows B) → floor_in rows.snapshot ≤ s.floor → RowsOk sent n rows
      → RowsOk sent n (with_snapshot s rows)
  rested_rows sent n rows rises ok =
      record {
        reached = ok.reached;
        tops =
            λ w a l. let g = l s refl in let t = ok.tops w a (λ z e. low w g z e) in
            record {
              best = t.best;
              is = from_has (suc s.floor) rows.votes t.best t.is (subst (λ i. suc s.floor ≤ i) (sym t.slot) (up w g));
              slot = t.slot;
              high = t.high;
            };
        above = λ z e u h. subst (λ (y : Snapshot). y.floor < u.slot) (same z e) (down u (from_high (suc s.floor) rows.votes u h));
        low = λ u h. ok.low u (has_from (suc s.floor) rows.votes u h);
        known = λ u h. ok.known u (has_from (suc s.floor) rows.votes u h);
      }
    where
      up : (w : Vote B) → s.floor < w.slot → suc s.floor ≤ w.slot
      up w l = omega arith

      down : (w : Vote B) → suc s.floor ≤ w.slot → s.floor < w.slot
      down w l = omega arith

      low : (w : Vote B) → s.floor < w.slot → (z : Snapshot) → rows.snapshot ≡ Some z → z.floor < w.slot
      low w l z e = let k = subst (λ o. floor_in o ≤ s.floor) e rises in omega arith

      same : (z : Snapshot) → Some s ≡ Some z → s ≡ z
      same z e = cc

  -- a leader proposes above the floor
  rested_role : (promised : ℕ → Option Ballot) (mine : Option Ballot) (own : ℕ) (sent : List (Packet B)) (n : ℕ) (r : Role B)
      → RoleOk promised mine own sent n r → RoleOk promised mine s.floor sent n (raised_above s.floor r)
  rested_role promised mine own sent n Idle ok = tt
  rested_role promised mine own sent n (Preparing b first promises) ok =
      record { owner = ok.owner; exact = ok.exact; only = ok.only; asked = ok.asked; none = ok.none; kept = ok.kept }
  rested_role promised mine own sent n (Leading b next table) ok =
      record {
        owner = ok.owner;
        exact = ok.exact;
        high = omega arith;
        made = λ v p e. let l = ok.made v p e in omega arith;
        own = λ v h. ok.own v (has_filter (λ (w : Vote B). nat_lt s.floor w.slot) table h);
        owned = λ v h. ok.owned v (has_filter (λ (w : Vote B). nat_lt s.floor w.slot) table h);
      }

  raised_free : (members : ℕ) (promised : ℕ → Option Ballot) (sent : List (Packet B)) (r : Role B) → RoleFree members promised sent r
      → RoleFree members promised sent (raised_above s.floor r)
  raised_free members promised sent Idle f = tt
  raised_free members promised sent (Preparing b first promises) f = tt
  raised_free members promised sent (Leading b next table) f = λ slot h l. f slot (omega arith) l

  rested_ok : (members : ℕ) (promised : ℕ → Option Ballot) (sent : List (Packet B)) (n : ℕ) (x : NodeState B)
      → floor_in x.rows.snapshot ≤ s.floor → NodeOk members promised sent n x → NodeOk members promised sent n (resting_on s x)
  rested_ok members promised sent n x rises ok =
      record {
        rows = rested_rows sent n x.rows rises ok.rows;
        role = rested_role promised x.rows.promised (floor_in x.rows.snapshot) sent n x.proposer.role ok.role;
        heard = λ t h j q. ok.heard t (has_filter _ x.learner.heard h) j q;
        learned = λ f h. ok.learned f (has_filter _ x.learner.learned h);
      }

module _ {B : Type 0} (same : B → B → Bool) (equal : IsEquality same) (members : ℕ) (many : 2 ≤ members) (at : ℕ → NodeState B) (n : ℕ)
    (before : List (Packet B)) where
  pub record Rests (t u : Plan B) : Type 0 where
    pub going : Going same equal members many at n before t u
    pub free : FreeAt same equal members many at n before u

  pub rests : (over : Bool) (s : Snapshot) (t : Plan B) → floor_in t.node.rows.snapshot ≤ s.floor
      → State same equal members many at n before t → FreeAt same equal members many at n before t → Rests t (rest_on over s t)
  rests over s t rises inv free = either over
    where
      m : NodeOk members (promises (with_node at n t.node)) (before ++ t.packets) n t.node
      m = mine_ok members at n t.node (before ++ t.packets) inv

      ok : NodeOk members (promises (with_node at n t.node)) (before ++ t.packets) n (resting_on s t.node)
      ok = rested_ok s members (promises (with_node at n t.node)) (before ++ t.packets) n t.node rises m

      at_role : (u : Plan B) → u.node.proposer.role ≡ raised_above s.floor t.node.proposer.role
          → Going same equal members many at n before t u → FreeAt same equal members many at n before u
      at_role u e g =
          subst (λ r. RoleFree members (promises (with_node at n u.node)) (before ++ u.packets) r) (sym e)
          (raised_free s members (promises (with_node at n u.node)) (before ++ u.packets) t.node.proposer.role
          (role_free_grows members g.grows t.node.proposer.role free))

      either : (z : Bool) → Rests t (rest_on z s t)
      either false =
          let g : Going same equal members many at n before t (rest_on false s t) =
          silent members many at n t.node (resting_on s t.node) (before ++ t.packets) inv refl ok in
          record { going = g; free = at_role (rest_on false s t) refl g }
      either true =
          let g : Going same equal members many at n before t (rest_on true s t) =
          silent members many at n t.node (keep_wanted (resting_on s t.node)) (before ++ t.packets) inv refl
          (record { rows = ok.rows; role = ok.role; heard = ok.heard; learned = ok.learned }) in
          record { going = g; free = at_role (rest_on true s t) refl g }
