-- Proposals are found by identity.
use Rattle.std.proofs.Common.{◌≡◌, ℕ, zero, suc, ◌<◌, ◌≤◌, Bool, true, false, cond, ◌&&◌, ◌||◌, Option, Some, None, List, [], ◌∷◌, ◌++◌, ltb, length, get_or, drop, ◌+◌}
use Rattle.std.proofs.Common.{refl, sym, ap, ◌∙◌, subst, arith}
use Rattle.std.specs.Prelude.{nat_lt, filter}
use Rattle.std.proofs.lemmas.List.{at_drop_more}
use Rattle.std.proofs.lemmas.Bool.{and_from, ltb-true, lt-ltb}
use Rattle.std.proofs.lemmas.Bool.Decides.{nat_tests}
use Rattle.std.proofs.Math.Bool.{beq}
use Rattle.std.specs.Map.{lookup}
use Rattle.indexmap.specs.IndexMap.{insert_entry}
use Rattle.paxos_packets.specs.Body.{IsEquality, number_same, numbers_joined}
use Rattle.paxos_packets.specs.Entry.{same_entry, entry_equality}
use Rattle.paxos_packets.specs.declared.entry.Entry.{Entry}
use Rattle.paxos_packets.specs.declared.vote.Vote.{Vote}
use Rattle.paxos_proposer.specs.declared.identity.Identity.{Identity}
use Rattle.paxos_proposer.specs.Identity.{identity_of, same_identity}
use Rattle.paxos_proposer.specs.Proposals.{stands_among, behind, IsUpTo, AreListed, IsOld}

-- the test of identities is equality

bit_same : (a : Bool) → beq a a ≡ true
bit_same true = refl
bit_same false = refl

bit_sound : (a b : Bool) → beq a b ≡ true → a ≡ b
bit_sound true true h = refl
bit_sound true false h = cc
bit_sound false true h = cc
bit_sound false false h = refl

same_self : (k : Identity) → same_identity k k ≡ true
same_self k = and_from _ _ (number_same k.node) (and_from _ _ (number_same k.boot) (and_from _ _ (number_same k.seq) (bit_same k.is_lost)))

same_sound : (k l : Identity) → same_identity k l ≡ true → k ≡ l
same_sound k l h =
    let n = numbers_joined k.node l.node _ h in
    let b = numbers_joined k.boot l.boot _ n.1 in
    let q = numbers_joined k.seq l.seq (beq k.is_lost l.is_lost) b.1 in
    let z = bit_sound k.is_lost l.is_lost q.1 in
    λ i. record { node = n.0 i; boot = b.0 i; seq = q.0 i; is_lost = z i }

-- what is found after an entry is put into the table

found_there : (k q : Identity) (v : ℕ) (es : List (Identity × ℕ)) → same_identity q k ≡ true
    → lookup (same_identity q) (insert_entry same_identity es k v) ≡ Some v
found_there k q v [] h = rw h refl
found_there k q v (e ∷ es) h = go (same_identity k e.0) refl (found_there k q v es h)
  where
    go : (b : Bool) → same_identity k e.0 ≡ b → lookup (same_identity q) (insert_entry same_identity es k v) ≡ Some v
        → lookup (same_identity q) (cond b ((e.0, v) ∷ es) (e ∷ insert_entry same_identity es k v)) ≡ Some v
    go true p more =
        let t : same_identity q e.0 ≡ true = subst (λ x. same_identity x e.0 ≡ true) (sym (same_sound q k h)) p in
        rw t refl
    go false p more =
        let t : same_identity q e.0 ≡ false = subst (λ x. same_identity x e.0 ≡ false) (sym (same_sound q k h)) p in
        rw t more

found_else : (k q : Identity) (v : ℕ) (es : List (Identity × ℕ)) → same_identity q k ≡ false
    → lookup (same_identity q) (insert_entry same_identity es k v) ≡ lookup (same_identity q) es
found_else k q v [] h = rw h refl
found_else k q v (e ∷ es) h = go (same_identity k e.0) refl (found_else k q v es h)
  where
    go : (b : Bool) → same_identity k e.0 ≡ b
        → lookup (same_identity q) (insert_entry same_identity es k v) ≡ lookup (same_identity q) es
        → lookup (same_identity q) (cond b ((e.0, v) ∷ es) (e ∷ insert_entry same_identity es k v))
        ≡ cond (same_identity q e.0) (Some e.1) (lookup (same_identity q) es)
    go true p more =
        let t : same_identity q e.0 ≡ false = subst (λ x. same_identity q x ≡ false) (same_sound k e.0 p) h in
        rw t refl
    go false p more = ap (λ o. cond (same_identity q e.0) (Some e.1) o) more

-- a proposal more is listed

up_to_later : (slot latest : ℕ) (o : Option ℕ) → IsUpTo slot o → IsOld latest o → slot ≤ latest
up_to_later slot latest None u o = absurd u
up_to_later slot latest (Some was) u o = omega arith

listed_later : {B : Type 0} (k : Identity) (latest : ℕ) (es : List (Identity × ℕ)) (vs : List (Vote B)) → AreListed es vs
    → IsOld latest (lookup (same_identity k) es) → AreListed (insert_entry same_identity es k latest) vs
listed_later k latest es [] h o = tt
listed_later {B} k latest es (v ∷ vs) h o =
    (go (same_identity (identity_of v.entry) k) refl, listed_later k latest es vs h.1 o)
  where
    go : (b : Bool) → same_identity (identity_of v.entry) k ≡ b
        → IsUpTo v.slot (lookup (same_identity (identity_of v.entry)) (insert_entry same_identity es k latest))
    go true p =
        let u : IsUpTo v.slot (lookup (same_identity k) es) =
        subst (λ x. IsUpTo v.slot (lookup (same_identity x) es)) (same_sound (identity_of v.entry) k p) h.0 in
        subst (λ x. IsUpTo v.slot x) (sym (found_there k (identity_of v.entry) latest es p))
        (up_to_later v.slot latest (lookup (same_identity k) es) u o)
    go false p = subst (λ x. IsUpTo v.slot x) (sym (found_else k (identity_of v.entry) latest es p)) h.0

listed_last : {B : Type 0} (es : List (Identity × ℕ)) (vs : List (Vote B)) (v : Vote B) → AreListed es vs
    → IsUpTo v.slot (lookup (same_identity (identity_of v.entry)) es) → AreListed es (vs ++ v ∷ [])
listed_last es [] v h u = (u, tt)
listed_last es (w ∷ ws) v h u = (h.0, listed_last es ws v h.1 u)

pub listed_more : {B : Type 0} (es : List (Identity × ℕ)) (vs : List (Vote B)) (v : Vote B) (latest : ℕ) → AreListed es vs → v.slot ≤ latest
    → IsOld latest (lookup (same_identity (identity_of v.entry)) es)
    → AreListed (insert_entry same_identity es (identity_of v.entry) latest) (vs ++ v ∷ [])
listed_more es vs v latest h l o =
    let k = identity_of v.entry in
    listed_last (insert_entry same_identity es k latest) vs v (listed_later k latest es vs h o)
    (subst (λ x. IsUpTo v.slot x) (sym (found_there k k latest es (same_self k))) l)

-- what is not found does not stand

not_after : (a b : ℕ) → b ≤ a → ltb a b ≡ false
not_after a b h = grind (arith, nat_tests)

up_to_old : (slot applied : ℕ) (o : Option ℕ) → IsUpTo slot o → IsOld applied o → slot ≤ applied
up_to_old slot applied None u o = absurd u
up_to_old slot applied (Some latest) u o = omega arith

pub old_stands : {B : Type 0} (same : B → B → Bool) → IsEquality same → (applied : ℕ) (e : Entry B) (es : List (Identity × ℕ)) (vs : List (Vote B))
    → AreListed es vs → IsOld applied (lookup (same_identity (identity_of e)) es) → stands_among same applied e vs ≡ false
old_stands same ok applied e es [] h o = refl
old_stands {B} same ok applied e es (v ∷ vs) h o = go (same_entry same v.entry e) refl (old_stands same ok applied e es vs h.1 o)
  where
    go : (b : Bool) → same_entry same v.entry e ≡ b → stands_among same applied e vs ≡ false
        → ((ltb applied v.slot && b) || stands_among same applied e vs) ≡ false
    go true p more =
        let q = (entry_equality same ok).sound v.entry e p in
        let u : IsUpTo v.slot (lookup (same_identity (identity_of e)) es) =
        subst (λ x. IsUpTo v.slot (lookup (same_identity (identity_of x)) es)) q h.0 in
        let n = not_after applied v.slot (up_to_old v.slot applied (lookup (same_identity (identity_of e)) es) u o) in
        rw (n, more) refl
    go false p more = off (ltb applied v.slot) (stands_among same applied e vs) more
      where
        off : (a c : Bool) → c ≡ false → ((a && false) || c) ≡ false
        off true c m = m
        off false c m = m

pub not_standing : {B : Type 0} (same : B → B → Bool) → IsEquality same → (applied : ℕ) (e : Entry B) (es : List (Identity × ℕ)) (vs : List (Vote B))
    (k : Identity) (o : Option ℕ) → AreListed es vs → k ≡ identity_of e → o ≡ lookup (same_identity k) es → IsOld applied o
    → false ≡ stands_among same applied e vs
not_standing same ok applied e es vs k o h p q old =
    let r = subst (λ x. o ≡ lookup (same_identity x) es) p q in
    sym (old_stands same ok applied e es vs h (subst (λ x. IsOld applied x) r old))

-- one that is found stands
pub stands_there : {B : Type 0} (same : B → B → Bool) (applied : ℕ) (e : Entry B) (vs : List (Vote B)) (i : ℕ) (v : Vote B) → i < length vs
    → v ≡ get_or vs i v → (ltb applied v.slot && same_entry same v.entry e) ≡ true → stands_among same applied e vs ≡ true
stands_there same applied e [] i v l g h = absurd (omega arith)
stands_there {B} same applied e (w ∷ ws) zero v l g h =
    let k = subst (λ (x : Vote B). (ltb applied x.slot && same_entry same x.entry e) ≡ true) g h in
    rw k refl
stands_there same applied e (w ∷ ws) (suc i) v l g h =
    on (ltb applied w.slot && same_entry same w.entry e) (stands_among same applied e ws) (stands_there same applied e ws i v (omega arith) g h)
  where
    on : (a b : Bool) → b ≡ true → (a || b) ≡ true
    on true b p = refl
    on false b p = p

-- what is passed does not stand

pub and_false : (a b : Bool) → b ≡ false → (a && b) ≡ false
and_false true b h = h
and_false false b h = refl

pub stands_behind : {B : Type 0} (same : B → B → Bool) (applied : ℕ) (e : Entry B) (vs : List (Vote B)) (i : ℕ) (v : Vote B) → i < length vs
    → v ≡ get_or vs i v → (nat_lt applied v.slot && same_entry same v.entry e) ≡ false
    → stands_among same applied e (drop (i + 1) vs) ≡ stands_among same applied e (drop i vs)
stands_behind {B} same applied e vs i v lt is fails =
    sym (at_drop_more (λ ws. stands_among same applied e ws) vs i v lt
    ∙ ap (λ (b : Bool). b || stands_among same applied e (drop (i + 1) vs))
    (subst (λ (w : Vote B). (nat_lt applied w.slot && same_entry same w.entry e) ≡ false) is fails))

-- what is after a floor is still listed, in a table without the slots up to it

pub lookup_kept : (test : Identity → Bool) (floor latest : ℕ) (es : List (Identity × ℕ)) → lookup test es ≡ Some latest → floor < latest
    → lookup test (filter (λ e. nat_lt floor e.1) es) ≡ Some latest
lookup_kept test floor latest [] h l = h
lookup_kept test floor latest (e ∷ es) h l =
    go (test e.0) (nat_lt floor e.1) refl refl h (λ k. lookup_kept test floor latest es k l)
  where
    go : (a b : Bool) → test e.0 ≡ a → nat_lt floor e.1 ≡ b → cond a (Some e.1) (lookup test es) ≡ Some latest
        → (lookup test es ≡ Some latest → lookup test (filter (λ d. nat_lt floor d.1) es) ≡ Some latest)
        → lookup test (cond b (e ∷ filter (λ d. nat_lt floor d.1) es) (filter (λ d. nat_lt floor d.1) es)) ≡ Some latest
    go true true p q k more = rw p k
    go true false p q k more =
        let same : e.1 ≡ latest = cc in
        let above : nat_lt floor e.1 ≡ true = lt-ltb floor e.1 (subst (λ (n : ℕ). floor < n) (sym same) l) in
        absurd (cc)
    go false true p q k more = rw p (more k)
    go false false p q k more = more k

pub listed_after : {B : Type 0} (floor : ℕ) (es : List (Identity × ℕ)) (vs : List (Vote B)) → AreListed es vs
    → AreListed (filter (λ e. nat_lt floor e.1) es) (behind floor vs)
listed_after floor es [] h = tt
listed_after {B} floor es (v ∷ vs) h = go (nat_lt floor v.slot) refl (listed_after floor es vs h.1)
  where
    there : (o : Option ℕ) → lookup (same_identity (identity_of v.entry)) es ≡ o → IsUpTo v.slot o → floor < v.slot
        → IsUpTo v.slot (lookup (same_identity (identity_of v.entry)) (filter (λ e. nat_lt floor e.1) es))
    there None p u l = absurd u
    there (Some latest) p u l =
        rw (lookup_kept (same_identity (identity_of v.entry)) floor latest es p (omega arith)) u

    go : (b : Bool) → nat_lt floor v.slot ≡ b → AreListed (filter (λ e. nat_lt floor e.1) es) (behind floor vs)
        → AreListed (filter (λ e. nat_lt floor e.1) es) (cond b (v ∷ behind floor vs) (behind floor vs))
    go true p more = (there (lookup (same_identity (identity_of v.entry)) es) refl h.0 (ltb-true floor v.slot p), more)
    go false p more = more
