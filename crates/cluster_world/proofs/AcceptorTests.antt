-- What the acceptor's tests say, and lists of votes.
use Rattle.std.proofs.Common.{◌≡◌, ◌⊎◌, inl, inr, ⊎_elim, ℕ, zero, suc, ◌≤◌, Bool, true, false, eqb, refl, sym, ap, ◌∙◌, arith, List, []}
use Rattle.std.proofs.Common.{◌∷◌, ◌++◌, map, Option, Some, None}
use Rattle.std.specs.Prelude.{if◌then◌else◌, nat_le, nat_lt}
use Rattle.std.proofs.lemmas.Bool.{cond_both, not-true, eqb-true, le-leb, le-leb}
use Rattle.cluster_world.proofs.Order.{Lt, Le, Reaches, Over, reach, over, le_trans, le_lt, lt_le, lt_not_le, lt_from_test, le_from_test}
use Rattle.cluster_world.proofs.Lists.{has_left, has_right, has_cons, has_nil, has_one, has_first, has_map, map_has, filter_has, has_filter}
use Rattle.cluster_world.proofs.Invariant.{Sent}
use Rattle.paxos_packets.specs.Ballot.{below}
use Rattle.cluster_world.specs.Has.{Has, here, there}
use Rattle.paxos_packets.specs.Members.{others}
use Rattle.paxos_acceptor.specs.Acceptor.{may_promise, may_accept}
use Rattle.paxos_packets.specs.Vote.{put_vote, votes_from}
use Rattle.paxos_packets.specs.Packet.{to_others, packet}
use Rattle.paxos_packets.specs.declared.ballot.Ballot.{Ballot}
use Rattle.paxos_packets.specs.declared.packet.Kind.{Kind}
use Rattle.paxos_packets.specs.declared.packet.Packet.{Packet}
use Rattle.paxos_packets.specs.declared.vote.Vote.{Vote}

pub accept_le : (p b : Ballot) → may_accept (Some p) b ≡ true → Le p b
accept_le p b m = le_from_test b p (not-true (below b p) m)

pub accept_up : (o : Option Ballot) (b : Ballot) → may_accept o b ≡ true → (a : Ballot) → Reaches o a → Reaches (Some b) a
accept_up None b m a h = elim h [ ]
accept_up (Some p) b m a (reach h) = reach (le_trans h (accept_le p b m))

pub accept_over : (o : Option Ballot) (b : Ballot) → may_accept o b ≡ true → Over o b → ⊥
accept_over None b m h = elim h [ ]
accept_over (Some p) b m (over h) = lt_not_le h (accept_le p b m)

pub promise_lt : (o : Option Ballot) (b : Ballot) → may_promise o b ≡ true → (a : Ballot) → Reaches o a → Lt a b
promise_lt None b m a h = elim h [ ]
promise_lt (Some p) b m a (reach h) = le_lt h (lt_from_test p b m)

pub promise_up : (o : Option Ballot) (b : Ballot) → may_promise o b ≡ true → (a : Ballot) → Reaches o a → Reaches (Some b) a
promise_up o b m a h = reach (lt_le (promise_lt o b m a h))

-- votes by slot

pub put_has : {B : Type 0} (v : Vote B) (votes : List (Vote B)) → Has (put_vote v votes) v
put_has v [] = here
put_has v (w ∷ ws) =
    cond_both (eqb v.slot w.slot) (v ∷ ws) (if nat_lt v.slot w.slot then v ∷ (w ∷ ws) else w ∷ put_vote v ws) (λ l. Has l v)
    (λ e. here)
    (λ e. cond_both (nat_lt v.slot w.slot) (v ∷ (w ∷ ws)) (w ∷ put_vote v ws) (λ l. Has l v) (λ f. here) (λ f. there (put_has v ws)))

pub put_cases : {B : Type 0} (v : Vote B) (votes : List (Vote B)) (u : Vote B) → Has (put_vote v votes) u → (v ≡ u) ⊎ Has votes u
put_cases v [] u h = inl (has_one h)
put_cases {B} v (w ∷ ws) u h =
    cond_both (eqb v.slot w.slot) (v ∷ ws) (if nat_lt v.slot w.slot then v ∷ (w ∷ ws) else w ∷ put_vote v ws) (λ l. Has l u → Goal)
    (λ e g. ⊎_elim (λ s. inl s) (λ r. inr (there r)) (has_cons g))
    (λ e. cond_both (nat_lt v.slot w.slot) (v ∷ (w ∷ ws)) (w ∷ put_vote v ws) (λ l. Has l u → Goal)
    (λ f g. has_cons g)
    (λ f g. ⊎_elim (λ s. inr (has_first ws s)) (λ r. ⊎_elim (λ s. inl s) (λ t. inr (there t)) (put_cases v ws u r)) (has_cons g)))
    h
  where
    Goal : Type 0
    Goal = (v ≡ u) ⊎ Has (w ∷ ws) u

pub put_keeps : {B : Type 0} (v : Vote B) (votes : List (Vote B)) (u : Vote B) → Has votes u → Has (put_vote v votes) u ⊎ (u.slot ≡ v.slot)
put_keeps v [] u h = absurd (has_nil h)
put_keeps {B} v (w ∷ ws) u h =
    cond_both (eqb v.slot w.slot) (v ∷ ws) (if nat_lt v.slot w.slot then v ∷ (w ∷ ws) else w ∷ put_vote v ws)
    (λ l. Has l u ⊎ (u.slot ≡ v.slot))
    (λ e. ⊎_elim (λ (s : w ≡ u). inr (ap (λ (z : Vote B). z.slot) (sym s) ∙ sym (eqb-true v.slot w.slot e))) (λ r. inl (there r))
    (has_cons h))
    (λ e. cond_both (nat_lt v.slot w.slot) (v ∷ (w ∷ ws)) (w ∷ put_vote v ws) (λ l. Has l u ⊎ (u.slot ≡ v.slot))
    (λ f. inl (there h))
    (λ f. ⊎_elim (λ s. inl (has_first (put_vote v ws) s)) (λ r. ⊎_elim (λ t. inl (there t)) (λ t. inr t) (put_keeps v ws u r))
    (has_cons h)))

pub from_has : {B : Type 0} (floor : ℕ) (votes : List (Vote B)) (u : Vote B) → Has votes u → floor ≤ u.slot → Has (votes_from floor votes) u
from_has {B} floor votes u h l = filter_has (λ (v : Vote B). nat_le floor v.slot) h (le-leb floor u.slot l)

pub has_from : {B : Type 0} (floor : ℕ) (votes : List (Vote B)) (u : Vote B) → Has (votes_from floor votes) u → Has votes u
has_from {B} floor votes u h = has_filter (λ (v : Vote B). nat_le floor v.slot) votes h

-- packets to the others

pub sent_to_some : {B : Type 0} (n : ℕ) (ks : List ℕ) (sort : Kind B) (k : ℕ) (kind : Kind B) → Sent (map (packet n sort) ks) k kind
    → (k ≡ n) × (sort ≡ kind)
sent_to_some {B} n ks sort k kind s =
    let m = has_map (packet n sort) ks s.is in
    (sym (ap (λ (p : Packet B). p.sender) m.2), ap (λ (p : Packet B). p.kind) m.2)

pub sent_to_others : {B : Type 0} (members n : ℕ) (sort : Kind B) (k : ℕ) (kind : Kind B) → Sent (to_others members n sort) k kind
    → (k ≡ n) × (sort ≡ kind)
sent_to_others members n sort k kind s = sent_to_some n (others n members) sort k kind s

pub sent_one : {B : Type 0} (n to : ℕ) (sort : Kind B) (k : ℕ) (kind : Kind B) → Sent (packet n sort to ∷ []) k kind
    → (k ≡ n) × (sort ≡ kind)
sent_one {B} n to sort k kind s =
    let m = has_one s.is in
    (sym (ap (λ (p : Packet B). p.sender) m), ap (λ (p : Packet B). p.kind) m)

pub sent_nil : {B : Type 0} (k : ℕ) (kind : Kind B) → Sent [] k kind → ⊥
sent_nil k kind s = has_nil s.is

-- there is another node
other : (n m : ℕ) → 2 ≤ m → (k : ℕ) × Has (others n m) k
other n zero l = absurd (omega arith)
other n (suc zero) l = absurd (omega arith)
other n (suc (suc zero)) l = go (eqb 1 n) (eqb 2 n) refl refl
  where
    go : (a b : Bool) → eqb 1 n ≡ a → eqb 2 n ≡ b
        → (k : ℕ) × Has (([] ++ (if eqb 1 n then [] else 1 ∷ [])) ++ (if eqb 2 n then [] else 2 ∷ [])) k
    go false b e f = (1, has_left (if eqb 2 n then [] else 2 ∷ []) (rw e here))
    go true false e f = (2, has_right ([] ++ (if eqb 1 n then [] else 1 ∷ [])) (rw f here))
    go true true e f = absurd (differ (eqb-true 1 n e ∙ sym (eqb-true 2 n f)))
      where
        differ : ◌≡◌ {A = ℕ} 1 2 → ⊥
        differ d = omega arith
other n (suc (suc (suc m))) l =
    let r = other n (suc (suc m)) (omega arith) in (r.0, has_left (if eqb (suc (suc (suc m))) n then [] else suc (suc (suc m)) ∷ []) r.1)

pub others_sent : {B : Type 0} (members n : ℕ) → 2 ≤ members → (kind : Kind B) → Sent (to_others members n kind) n kind
others_sent members n l kind = let r = other n members l in record { to = r.0; is = map_has (packet n kind) r.1 }
