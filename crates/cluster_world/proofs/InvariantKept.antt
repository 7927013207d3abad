-- A move of one node keeps the invariant.
use Rattle.std.proofs.Common.{◌≡◌, ◌⊎◌, inl, inr, ⊎_elim, ℕ, sym, ◌∙◌, subst, List, ◌++◌, Option}
use Rattle.std.proofs.lemmas.Bool.{cases_eq}
use Rattle.cluster_world.proofs.Order.{Reaches, Over}
use Rattle.cluster_world.proofs.Lists.{has_left, has_right, has_cases}
use Rattle.cluster_world.proofs.Invariant.{Sent, Known, Told, RowsOk, RoleOk, Grows, PacketsOk, NodeOk, Inv, promises, KindOk}
use Rattle.cluster_world.proofs.Growth.{known_grows, safe_grows, told_grows, chosen_grows, vote_of_grows, role_grows}
use Rattle.paxos_packets.specs.Snapshot.{floor_in}
use Rattle.paxos_proposer.specs.Role.{Role}
use Rattle.paxos_planning.specs.Node.{NodeState}
use Rattle.paxos_packets.specs.declared.ballot.Ballot.{Ballot}
use Rattle.paxos_packets.specs.declared.packet.Kind.{Kind}
use Rattle.paxos_packets.specs.declared.packet.Packet.{Packet}
use Rattle.paxos_packets.specs.declared.rows.Rows.{Rows}
use Rattle.paxos_packets.specs.declared.vote.Vote.{Vote}
use Rattle.paxos_packets.specs.declared.packet.Kind.TheVariants.{Prepare, Promise, Accept, Accepted, Learned}

pub sent_left : {B : Type 0} {sent : List (Packet B)} {k : ℕ} {kind : Kind B} (new : List (Packet B)) → Sent sent k kind
    → Sent (sent ++ new) k kind
sent_left new s = record { to = s.to; is = has_left new s.is }

pub sent_right : {B : Type 0} (sent : List (Packet B)) {new : List (Packet B)} {k : ℕ} {kind : Kind B} → Sent new k kind
    → Sent (sent ++ new) k kind
sent_right sent s = record { to = s.to; is = has_right sent s.is }

pub sent_cases : {B : Type 0} (sent new : List (Packet B)) {k : ℕ} {kind : Kind B} → Sent (sent ++ new) k kind
    → Sent sent k kind ⊎ Sent new k kind
sent_cases sent new s = ⊎_elim (λ h. inl (record { to = s.to; is = h })) (λ h. inr (record { to = s.to; is = h })) (has_cases sent new s.is)

pub known_cases : {B : Type 0} (sent new : List (Packet B)) {kind : Kind B} → Known (sent ++ new) kind → Known sent kind ⊎ Known new kind
known_cases sent new s =
    ⊎_elim (λ h. inl (record { by = s.by; is = h })) (λ h. inr (record { by = s.by; is = h })) (sent_cases sent new s.is)

-- n alone moves: its promise only rises, and it casts no vote below it
pub grows_by : {B : Type 0} (promised now : ℕ → Option Ballot) (sent new : List (Packet B)) (n : ℕ)
    → ((k : ℕ) → (k ≡ n → ⊥) → now k ≡ promised k) → ((b : Ballot) → Reaches (promised n) b → Reaches (now n) b)
    → ((k : ℕ) (v : Vote B) → Sent new k (Accepted v) → (k ≡ n) × (Over (promised n) v.ballot → ⊥)) → Grows promised now sent (sent ++ new)
grows_by promised now sent new n same up votes =
    record {
      more = λ p h. has_left new h;
      higher =
          λ k b h.
          ⊎_elim (λ (e : k ≡ n). subst (λ j. Reaches (now j) b) (sym e) (up b (subst (λ j. Reaches (promised j) b) e h)))
          (λ d. subst (λ o. Reaches o b) (sym (same k d)) h) (cases_eq k n);
      still =
          λ k v o s.
          ⊎_elim (λ a. a) (λ a. let m = votes k v a in absurd (m.1 (subst (λ j. Over (promised j) v.ballot) m.0 o)))
          (sent_cases sent new s);
    }

module _ {B : Type 0} (members : ℕ) (promised now : ℕ → Option Ballot) (sent new : List (Packet B)) (n : ℕ)
    (g : Grows promised now sent (sent ++ new))
    (fresh : (k : ℕ) (kind : Kind B) → Sent new k kind → (k ≡ n) × KindOk members now (sent ++ new) n kind) where
  later : List (Packet B)
  later = sent ++ new

  packets_kept : PacketsOk members promised sent → PacketsOk members now (sent ++ new)
  packets_kept ok =
      record {
        safe = λ v p. ⊎_elim (λ o. safe_grows g (ok.safe v o)) (λ o. (fresh o.by (Accept v) o.is).1.safe) (known_cases sent new p);
        one = λ v w p q s b. ⊎_elim
            (λ o. ⊎_elim (λ r. ok.one v w o r s b) (λ r. sym ((fresh r.by (Accept w) r.is).1.one v p (sym s) (sym b)))
            (known_cases sent new q))
            (λ o. (fresh o.by (Accept v) o.is).1.one w q s b)
            (known_cases sent new p);
        low =
            λ v p.
            ⊎_elim (λ o. g.higher v.ballot.node v.ballot (ok.low v o))
            (λ o. let a = (fresh o.by (Accept v) o.is).1 in subst (λ j. Reaches (now j) v.ballot) (sym a.owner) a.reaches)
            (known_cases sent new p);
        voted = λ k v p. ⊎_elim (λ o. known_grows g (ok.voted k v o)) (λ o. (fresh k (Accepted v) o).1) (sent_cases sent new p);
        asked_one = λ b f h p q. ⊎_elim
            (λ o. ⊎_elim (λ r. ok.asked_one b f h o r) (λ r. (fresh r.by (Prepare b h) r.is).1.one f p) (known_cases sent new q))
            (λ o. sym ((fresh o.by (Prepare b f) o.is).1.one h q))
            (known_cases sent new p);
        asked_low =
            λ b f p.
            ⊎_elim (λ o. g.higher b.node b (ok.asked_low b f o))
            (λ o. let a = (fresh o.by (Prepare b f) o.is).1 in subst (λ j. Reaches (now j) b) (sym a.owner) a.reaches)
            (known_cases sent new p);
        told =
            λ k b floor votes p.
            ⊎_elim (λ o. told_grows g (ok.told k b floor votes o))
            (λ o. let a = fresh k (Promise b floor votes) o in subst (λ j. Told now (sent ++ new) j b floor votes) (sym a.0) a.1)
            (sent_cases sent new p);
        learned =
            λ s e p. ⊎_elim (λ o. chosen_grows g (ok.learned s e o)) (λ o. (fresh o.by (Learned s e) o.is).1) (known_cases sent new p);
      }

  -- another node

  still_sent : (k : ℕ) → (k ≡ n → ⊥) → (kind : Kind B) → Sent (sent ++ new) k kind → Sent sent k kind
  still_sent k d kind s = ⊎_elim (λ o. o) (λ o. absurd (d (fresh k kind o).0)) (sent_cases sent new s)

  rows_kept : (k : ℕ) → (k ≡ n → ⊥) → (rows : Rows B) → RowsOk sent k rows → RowsOk (sent ++ new) k rows
  rows_kept k d rows ok =
      record {
        reached = λ w s. ok.reached w (still_sent k d (Accepted w) s);
        tops = λ w s l. ok.tops w (still_sent k d (Accepted w) s) l;
        above = ok.above;
        low = ok.low;
        known = λ u h. known_grows g (ok.known u h);
      }

  role_kept : (k : ℕ) → (k ≡ n → ⊥) → (mine : Option Ballot) (own_floor : ℕ) (r : Role B) → RoleOk promised mine own_floor sent k r
      → RoleOk now mine own_floor (sent ++ new) k r
  role_kept k d mine own_floor r ok =
      role_grows g k
      (λ b o f p. ⊎_elim (λ a. a) (λ a. absurd (d (sym o ∙ (fresh a.by (Prepare b f) a.is).1.owner))) (known_cases sent new p))
      (λ v o p. ⊎_elim (λ a. a) (λ a. absurd (d (sym o ∙ (fresh a.by (Accept v) a.is).1.owner))) (known_cases sent new p))
      mine own_floor r ok

  node_kept : (k : ℕ) → (k ≡ n → ⊥) → (x : NodeState B) → NodeOk members promised sent k x → NodeOk members now (sent ++ new) k x
  node_kept k d x ok =
      record {
        rows = rows_kept k d x.rows ok.rows;
        role = role_kept k d x.rows.promised (floor_in x.rows.snapshot) x.proposer.role ok.role;
        heard = λ t i k q. vote_of_grows g (ok.heard t i k q);
        learned = λ f i. chosen_grows g (ok.learned f i);
      }

pub moved : {B : Type 0} (members : ℕ) (at at' : ℕ → NodeState B) (sent new : List (Packet B)) (n : ℕ)
    → ((k : ℕ) → (k ≡ n → ⊥) → at' k ≡ at k) → Inv members at sent → Grows (promises at) (promises at') sent (sent ++ new)
    → ((k : ℕ) (kind : Kind B) → Sent new k kind → (k ≡ n) × KindOk members (promises at') (sent ++ new) n kind)
    → NodeOk members (promises at') (sent ++ new) n (at' n) → Inv members at' (sent ++ new)
moved members at at' sent new n same inv g fresh mine =
    record {
      packets = packets_kept members (promises at) (promises at') sent new n g fresh inv.packets;
      nodes = λ k. ⊎_elim
          (λ (e : k ≡ n). subst (λ j. NodeOk members (promises at') (sent ++ new) j (at' j)) (sym e) mine)
          (λ d. subst (λ x. NodeOk members (promises at') (sent ++ new) k x) (sym (same k d))
          (node_kept members (promises at) (promises at') sent new n g fresh k d (at k) (inv.nodes k)))
          (cases_eq k n);
    }
