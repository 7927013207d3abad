-- What is found of each transport once something is put for one of them.
use Rattle.std.proofs.Common.{◌≡◌, refl, sym, ap, ◌∙◌, ℕ, ◌+◌, ◌-◌, ◌<◌, arith, Bool, true, false, cond, eqb, ◌&&◌, List, [], ◌∷◌, ◌++◌}
use Rattle.std.proofs.Common.{Option, Some, None, subst, rules}
use Rattle.std.proofs.Math.Path.{fun_ext}
use Rattle.std.proofs.lemmas.List.{append-nil}
use Rattle.std.proofs.lemmas.Bool.{and_parts, eqb-true}
use Rattle.std.specs.Prelude.{is_some}
use Rattle.std.specs.Map.{lookup}
use Rattle.std.specs.Option.{option_map_or}
use Rattle.std.specs.Ordering.{is_eq}
use Rattle.std.specs.BTreeMap.{is_at}
use Rattle.paxos_packets.specs.declared.transport.Transport.{Transport}
use Rattle.paxos_packets.specs.Transport.{same_transport}
use Rattle.paxos_packets.specs.contracts.transport.TransportOrd.TheImpl as impl
use Rattle.replica_follower.specs.declared.handed.Told.{Told}
use Rattle.replica_follower.specs.Handed.{said_in, HasRoom}

cmp_same : (t q : Transport) → is_eq (impl.cmp-value.it t q) ≡ same_transport t q
cmp_same t q = search rules

pub at_same : (t : Transport) → is_at (impl.cmp-value.it t) ≡ same_transport t
at_same t = fun_ext (λ q. cmp_same t q)

pub transport_is : (t q : Transport) → same_transport t q ≡ true → q ≡ t
transport_is t q h =
    let a = and_parts (eqb t.node q.node) (eqb t.boot q.boot && eqb t.number q.number) h in
    let b = and_parts (eqb t.boot q.boot) (eqb t.number q.number) a.1 in
    let node = eqb-true t.node q.node a.0 in
    let boot = eqb-true t.boot q.boot b.0 in
    let number = eqb-true t.number q.number b.1 in
    sym (λ i. record { node = node i; boot = boot i; number = number i })

abbrev pub Table : Type 0 → Type 0
Table Y = List (Transport × Told Y)

module _ {Y : Type 0} where
  -- for t there is w, for each other one what there was
  abbrev pub Puts : Transport → Told Y → Table Y → Table Y → Type 0
  Puts t w old new = (q : Transport) → lookup (same_transport q) new ≡ cond (same_transport t q) (Some w) (lookup (same_transport q) old)

  -- the same, as a map says it
  abbrev pub MapPuts : Transport → Told Y → Table Y → Table Y → Type 0
  MapPuts t w old new = (q : Transport) → lookup (is_at (impl.cmp-value.it q)) new
      ≡ cond (is_at (impl.cmp-value.it t) q) (Some w) (lookup (is_at (impl.cmp-value.it q)) old)

  pub puts : (t : Transport) (w : Told Y) (old new : Table Y) → MapPuts t w old new → Puts t w old new
  puts t w old new h = λ q.
      ap (λ test. lookup test new) (sym (at_same q))
      ∙ h q
      ∙ ap (λ b. cond b (Some w) (lookup (is_at (impl.cmp-value.it q)) old)) (cmp_same t q)
      ∙ ap (λ test. cond (same_transport t q) (Some w) (lookup test old)) (at_same q)

  pub found : (t : Transport) (u : Told Y) (table : Table Y) → Some u ≡ lookup (is_at (impl.cmp-value.it t)) table
      → lookup (same_transport t) table ≡ Some u
  found t u table h = ap (λ test. lookup test table) (sym (at_same t)) ∙ sym h

  -- what is read of a transport's place
  module _ {X : Type 0} (f : Told Y → X) (none : X) where
    abbrev pub read : Transport → Table Y → X
    read t table = option_map_or f (lookup (same_transport t) table) none

    pub read_found : (t : Transport) (u : Told Y) (table : Table Y) → lookup (same_transport t) table ≡ Some u → read t table ≡ f u
    read_found t u table h = ap (λ o. option_map_or f o none) h

    read_put : (t : Transport) (w : Told Y) (old new : Table Y) → Puts t w old new → (q : Transport)
        → read q new ≡ cond (same_transport t q) (f w) (read q old)
    read_put t w old new put q = ap (λ o. option_map_or f o none) (put q) ∙ go (same_transport t q)
      where
        go : (b : Bool) → option_map_or f (cond b (Some w) (lookup (same_transport q) old)) none ≡ cond b (f w) (read q old)
        go true = refl
        go false = refl

    -- it changes by g for t, and for no other
    pub read_changes : (g : X → X) (t : Transport) (w : Told Y) (old new : Table Y) → Puts t w old new → f w ≡ g (read t old)
        → (q : Transport) → read q new ≡ cond (same_transport t q) (g (read q old)) (read q old)
    read_changes g t w old new put is q = read_put t w old new put q ∙ go (same_transport t q) refl
      where
        go : (b : Bool) → same_transport t q ≡ b → cond b (f w) (read q old) ≡ cond b (g (read q old)) (read q old)
        go true h = is ∙ ap (λ u. g (read u old)) (sym (transport_is t q h))
        go false h = refl

  -- room stays, if it is there in the new place
  pub rooms : (t : Transport) (w : Told Y) (old new : Table Y) → Puts t w old new → HasRoom w
      → ((q : Transport) (u : Told Y) → lookup (same_transport q) old ≡ Some u → HasRoom u)
      → (q : Transport) (u : Told Y) → lookup (same_transport q) new ≡ Some u → HasRoom u
  rooms t w old new put room was q u h = go (same_transport t q) refl
    where
      go : (b : Bool) → same_transport t q ≡ b → HasRoom u
      go true is =
          let e : Some w ≡ Some u = sym (put q ∙ ap (λ b. cond b (Some w) (lookup (same_transport q) old)) is) ∙ h in
          subst (λ v. HasRoom v) (let z : w ≡ u = cc in z) room
      go false is = was q u (sym (put q ∙ ap (λ b. cond b (Some w) (lookup (same_transport q) old)) is) ∙ h)

said_one : {A : Type 0} (b : Bool) (xs : List A) (x : A) → cond b (xs ++ x ∷ []) xs ≡ xs ++ cond b (x ∷ []) []
said_one true xs x = refl
said_one false xs x = sym (append-nil xs)

pub one_more : {Y : Type 0} (t : Transport) (say : Y) (old new : List (Transport × Told Y))
    → ((q : Transport) → said_in q new ≡ cond (same_transport t q) (said_in q old ++ say ∷ []) (said_in q old))
    → (q : Transport) → said_in q new ≡ said_in q old ++ cond (same_transport t q) (say ∷ []) []
one_more t say old new h q = h q ∙ said_one (same_transport t q) (said_in q old) say

pub same_said : {X : Type 0} (b : Bool) (x : X) → cond b x x ≡ x
same_said true x = refl
same_said false x = refl

pub room_more : (b : Bool) (n : ℕ) → cond b (n + 1) n ≡ n + cond b 1 0
room_more true n = refl
room_more false n = omega arith

pub room_less : (b : Bool) (n k : ℕ) → k ≡ cond b (n - 1) n → (b ≡ true → 0 < n) → n ≡ k + cond b 1 0
room_less true n k h l = let p = l refl in omega arith
room_less false n k h l = omega arith

-- a place that holds nothing yet says as much as none
pub absent : {Y : Type 0} (t : Transport) (table : Table Y) → is_some (lookup (is_at (impl.cmp-value.it t)) table) ≡ false
    → lookup (same_transport t) table ≡ None
absent t table h = ap (λ test. lookup test table) (sym (at_same t)) ∙ go (lookup (is_at (impl.cmp-value.it t)) table) h
  where
    go : {X : Type 0} (o : Option X) → is_some o ≡ false → o ≡ None
    go None h = refl
    go (Some x) h = cc
