-- The transports that were handed something, in order.
use Rattle.std.proofs.Common.{◌≡◌, inl, inr, refl, ℕ, zero, suc, ◌<◌, arith, Bool, true, false, eqb, List, [], ◌∷◌, ⊎_elim, ◌⊎◌}
use Rattle.std.proofs.Common.{Ordering, Less, Equal, Greater, cond, ◌≢◌, ◌∙◌, sym, ap, subst, Some}
use Rattle.std.specs.Prelude.{All, nat_lt}
use Rattle.std.specs.Map.{keys_of, lookup}
use Rattle.std.specs.Option.{option_map_or}
use Rattle.std.specs.List.{AllByRecursion}
use Rattle.std.specs.List.Sorted.{IsStrictlySortedBy}
use Rattle.std.specs.Ordering.{ordering_then, nat_cmp}
use Rattle.std.proofs.lemmas.Bool.{eqb-true, ltb-true}
use Rattle.std.proofs.lemmas.List.Kept.{AllPairs-cons}
use Rattle.paxos_packets.specs.declared.transport.Transport.{Transport}
use Rattle.paxos_packets.specs.Transport.{same_transport}
use Rattle.paxos_packets.specs.contracts.transport.TransportOrd.TheImpl as impl
use Rattle.replica_follower.specs.declared.handed.Told.{Told}
use Rattle.replica_follower.specs.Handed.{telling, tellings, said_in, told_in, IsBefore, AreInOrder, TellAll}
use Rattle.replica_follower.proofs.Handing.{transport_is}

then_less : (a b : Ordering) → ordering_then a b ≡ Less → (a ≡ Less) ⊎ ((a ≡ Equal) × (b ≡ Less))
then_less Less b h = inl refl
then_less Equal b h = inr (refl, h)
then_less Greater b h = absurd (cc)

numbers_less : (x y : ℕ) → nat_cmp x y ≡ Less → x < y
numbers_less x y h = go (nat_lt x y) (eqb x y) refl h
  where
    go : (b c : Bool) → nat_lt x y ≡ b → cond b Less (cond c Equal Greater) ≡ Less → x < y
    go true c l e = ltb-true x y l
    go false true l e = absurd (cc)
    go false false l e = absurd (cc)

numbers_equal : (x y : ℕ) → nat_cmp x y ≡ Equal → x ≡ y
numbers_equal x y h = go (nat_lt x y) (eqb x y) refl h
  where
    go : (b c : Bool) → eqb x y ≡ c → cond b Less (cond c Equal Greater) ≡ Equal → x ≡ y
    go true c l e = absurd (cc)
    go false true l e = eqb-true x y l
    go false false l e = absurd (cc)

before : (t q : Transport) → impl.cmp-value.it t q ≡ Less → IsBefore t q
before t q h =
    ⊎_elim (λ node. inl (numbers_less t.node q.node node))
    (λ rest. inr (
      numbers_equal t.node q.node rest.0,
      ⊎_elim (λ boot. inl (numbers_less t.boot q.boot boot))
          (λ more. inr (numbers_equal t.boot q.boot more.0, numbers_less t.number q.number more.1))
          (then_less (nat_cmp t.boot q.boot) (nat_cmp t.number q.number) rest.1),
    ))
    (then_less (nat_cmp t.node q.node) (ordering_then (nat_cmp t.boot q.boot) (nat_cmp t.number q.number)) h)

after_none : (t : Transport) → IsBefore t t → ⊥
after_none t h =
    ⊎_elim (λ l. omega (arith, l)) (λ r. ⊎_elim (λ l. omega (arith, l)) (λ s. let l = s.1 in omega (arith, l)) r.1) h

apart : (t q : Transport) → IsBefore t q → same_transport t q ≡ false
apart t q h = go (same_transport t q) refl
  where
    go : (b : Bool) → same_transport t q ≡ b → same_transport t q ≡ false
    go false e = e
    go true e = absurd (after_none t (subst (λ p. IsBefore t p) (transport_is t q e) h))

module _ {Y : Type 0} where
  behind_one : (t q : Transport) (ys : List Y) (rest : List (Transport × List Y)) → IsBefore t q → All (λ p. IsBefore t p.0) rest
      → All (λ p. IsBefore t p.0) (telling q ys rest)
  behind_one t q [] rest b h k d l = h k d l
  behind_one t q (y ∷ ys) rest b h zero d l = b
  behind_one t q (y ∷ ys) rest b h (suc k) d l = h k d (omega arith)

  -- what is listed of places after one
  told_behind : (t : Transport) (ps : List (Transport × Told Y)) → AllByRecursion (λ q. impl.cmp-value.it t q ≡ Less) (keys_of ps)
      → All (λ p. IsBefore t p.0) (tellings ps)
  told_behind t [] h = λ k d l. absurd (omega arith)
  told_behind t (p ∷ ps) h = behind_one t p.0 p.1.says.items (tellings ps) (before t p.0 h.0) (told_behind t ps h.1)

  one_more : (t : Transport) (ys : List Y) (rest : List (Transport × List Y)) → All (λ p. IsBefore t p.0) rest → AreInOrder rest
      → AreInOrder (telling t ys rest)
  one_more t [] rest b h = h
  one_more t (y ∷ ys) rest b h = AllPairs-cons (λ p q. IsBefore p.0 q.0) (t, y ∷ ys) rest b h

  in_order : (ps : List (Transport × Told Y)) → IsStrictlySortedBy impl.cmp-value.it (keys_of ps) → AreInOrder (tellings ps)
  unfolding IsStrictlySortedBy
  in_order [] h = λ i j d l w. absurd (omega arith)
  in_order (p ∷ ps) h = one_more p.0 p.1.says.items (tellings ps) (told_behind p.0 ps h.0) (in_order ps h.1)

  full : (ps : List (Transport × Told Y)) → All (λ (p : Transport × List Y). p.1 ≢ []) (tellings ps)
  full [] = λ k d l. absurd (omega arith)
  full (p ∷ ps) = go p.1.says.items (full ps)
    where
      go : (ys : List Y) → All (λ (p : Transport × List Y). p.1 ≢ []) (tellings ps)
          → All (λ (p : Transport × List Y). p.1 ≢ []) (telling p.0 ys (tellings ps))
      go [] h k d l = h k d l
      go (y ∷ ys) h zero d l = λ e. cc
      go (y ∷ ys) h (suc k) d l = h k d (omega arith)

  -- a transport before all of these is none of them
  none_behind : (t : Transport) (told : List (Transport × List Y)) → All (λ p. IsBefore t p.0) told → told_in t told ≡ []
  none_behind t [] h = refl
  none_behind t (p ∷ told) h =
      ap (λ b. option_map_or (λ ys. ys) (cond b (Some p.1) (lookup (same_transport t) told)) []) (apart t p.0 (h 0 p (omega arith)))
      ∙ none_behind t told (λ k d l. h (suc k) d (omega arith))

  told_first : (t q : Transport) (ys : List Y) (rest : List (Transport × List Y)) (b : Bool) → same_transport t q ≡ b
      → (b ≡ true → told_in t rest ≡ []) → told_in t (telling q ys rest) ≡ cond b ys (told_in t rest)
  told_first t q [] rest true e none = none refl
  told_first t q [] rest false e none = refl
  told_first t q (y ∷ ys) rest true e none = ap (λ c. option_map_or (λ zs. zs) (cond c (Some (y ∷ ys)) (lookup (same_transport t) rest)) []) e
  told_first t q (y ∷ ys) rest false e none = ap (λ c. option_map_or (λ zs. zs) (cond c (Some (y ∷ ys)) (lookup (same_transport t) rest)) []) e

  said_first : (t q : Transport) (u : Told Y) (ps : List (Transport × Told Y)) (b : Bool) → same_transport t q ≡ b
      → said_in t ((q, u) ∷ ps) ≡ cond b u.says.items (said_in t ps)
  said_first t q u ps true e = ap (λ c. option_map_or (λ (v : Told Y). v.says.items) (cond c (Some u) (lookup (same_transport t) ps)) []) e
  said_first t q u ps false e = ap (λ c. option_map_or (λ (v : Told Y). v.says.items) (cond c (Some u) (lookup (same_transport t) ps)) []) e

  each : (ps : List (Transport × Told Y)) → IsStrictlySortedBy impl.cmp-value.it (keys_of ps) → (t : Transport)
      → told_in t (tellings ps) ≡ said_in t ps
  unfolding IsStrictlySortedBy
  each [] h t = refl
  each (p ∷ ps) h t =
      told_first t p.0 p.1.says.items (tellings ps) (same_transport t p.0) refl
      (λ e. none_behind t (tellings ps) (subst (λ q. All (λ z. IsBefore q z.0) (tellings ps)) (transport_is t p.0 e) (told_behind p.0 ps h.0)))
      ∙ (ap (λ ys. cond (same_transport t p.0) p.1.says.items ys) (each ps h.1 t)
      ∙ sym (said_first t p.0 p.1 ps (same_transport t p.0) refl))

  pub tell_all : (ps : List (Transport × Told Y)) → IsStrictlySortedBy impl.cmp-value.it (keys_of ps) → TellAll ps (tellings ps)
  tell_all ps h = record { in_order = in_order ps h; full = full ps; each = each ps h }
