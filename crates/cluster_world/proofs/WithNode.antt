-- One node's event: the others stay.
use Rattle.std.proofs.Common.{◌≡◌, ℕ, eqb, refl, sym, ap, ◌∙◌, subst, List, ◌++◌}
use Rattle.std.proofs.lemmas.Bool.{eq-eqb, ne_eqb, cond-true, cond-false}
use Rattle.std.specs.Prelude.{if◌then◌else◌}
use Rattle.cluster_world.proofs.Order.{Reaches, Over}
use Rattle.cluster_world.proofs.Invariant.{Sent, Grows, NodeOk, Inv, promises, KindOk}
use Rattle.cluster_world.proofs.Growth.{grows_on}
use Rattle.cluster_world.proofs.InvariantKept.{grows_by, moved}
use Rattle.paxos_planning.specs.Node.{NodeState}
use Rattle.paxos_packets.specs.declared.ballot.Ballot.{Ballot}
use Rattle.paxos_packets.specs.declared.packet.Kind.{Kind}
use Rattle.paxos_packets.specs.declared.packet.Packet.{Packet}
use Rattle.paxos_packets.specs.declared.vote.Vote.{Vote}
use Rattle.paxos_packets.specs.declared.packet.Kind.TheVariants.{Accepted}

abbrev pub with_node : {B : Type 0} → (ℕ → NodeState B) → ℕ → NodeState B → ℕ → NodeState B
with_node at n x k = if eqb k n then x else at k

pub with_node_mine : {B : Type 0} (at : ℕ → NodeState B) (n : ℕ) (x : NodeState B) → with_node at n x n ≡ x
with_node_mine at n x = cond-true (eqb n n) x (at n) (eq-eqb n n refl)

pub with_node_other : {B : Type 0} (at : ℕ → NodeState B) (n : ℕ) (x : NodeState B) (k : ℕ) → (k ≡ n → ⊥) → with_node at n x k ≡ at k
with_node_other at n x k d = cond-false (eqb k n) x (at k) (ne_eqb k n d)

with_node_same : {B : Type 0} (at : ℕ → NodeState B) (n : ℕ) (x y : NodeState B) (k : ℕ) → (k ≡ n → ⊥)
    → with_node at n y k ≡ with_node at n x k
with_node_same at n x y k d = with_node_other at n y k d ∙ sym (with_node_other at n x k d)

pub with_node_promised : {B : Type 0} (at : ℕ → NodeState B) (n : ℕ) (x : NodeState B) → promises (with_node at n x) n ≡ x.rows.promised
with_node_promised at n x = ap (λ (y : NodeState _). y.rows.promised) (with_node_mine at n x)

-- the invariant holds after a move too, and the world has grown
pub record Kept {B : Type 0} (members : ℕ) (at : ℕ → NodeState B) (n : ℕ) (x : NodeState B) (sent : List (Packet B)) (y : NodeState B)
    (later : List (Packet B)) : Type 0 where
  pub inv : Inv members (with_node at n y) later
  pub grows : Grows (promises (with_node at n x)) (promises (with_node at n y)) sent later

pub kept_on : {B : Type 0} {members : ℕ} {at : ℕ → NodeState B} {n : ℕ} {x y z : NodeState B} {a b c : List (Packet B)}
    → Kept members at n x a y b → Kept members at n y b z c → Kept members at n x a z c
kept_on h k = record { inv = k.inv; grows = grows_on h.grows k.grows }

pub mine_ok : {B : Type 0} (members : ℕ) (at : ℕ → NodeState B) (n : ℕ) (x : NodeState B) (sent : List (Packet B))
    → Inv members (with_node at n x) sent → NodeOk members (promises (with_node at n x)) sent n x
mine_ok members at n x sent inv = subst (λ y. NodeOk members (promises (with_node at n x)) sent n y) (with_node_mine at n x) (inv.nodes n)

pub plan_moved : {B : Type 0} (members : ℕ) (at : ℕ → NodeState B) (n : ℕ) (x y : NodeState B) (sent new : List (Packet B))
    → Inv members (with_node at n x) sent
    → ((b : Ballot) → Reaches x.rows.promised b → Reaches y.rows.promised b)
    → ((k : ℕ) (v : Vote B) → Sent new k (Accepted v) → (k ≡ n) × (Over x.rows.promised v.ballot → ⊥))
    → (Grows (promises (with_node at n x)) (promises (with_node at n y)) sent (sent ++ new) → (k : ℕ) (kind : Kind B) → Sent new k kind
    → (k ≡ n) × KindOk members (promises (with_node at n y)) (sent ++ new) n kind)
    → (Grows (promises (with_node at n x)) (promises (with_node at n y)) sent (sent ++ new)
    → NodeOk members (promises (with_node at n y)) (sent ++ new) n y)
    → Kept members at n x sent y (sent ++ new)
plan_moved {B} members at n x y sent new inv up votes fresh mine =
    record {
      inv =
          moved members (with_node at n x) (with_node at n y) sent new n (with_node_same at n x y) inv g (fresh g)
          (subst (λ z. NodeOk members (promises (with_node at n y)) (sent ++ new) n z) (sym (with_node_mine at n y)) (mine g));
      grows = g;
    }
  where
    g : Grows (promises (with_node at n x)) (promises (with_node at n y)) sent (sent ++ new)
    g = grows_by (promises (with_node at n x)) (promises (with_node at n y)) sent new n
        (λ k d. ap (λ (z : NodeState B). z.rows.promised) (with_node_same at n x y k d))
        (λ b h. subst (λ o. Reaches o b) (sym (with_node_promised at n y)) (up b (subst (λ o. Reaches o b) (with_node_promised at n x) h)))
        (λ k v s. let m = votes k v s in (m.0, λ o. m.1 (subst (λ p. Over p v.ballot) (with_node_promised at n x) o)))
