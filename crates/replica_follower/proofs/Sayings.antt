-- What a machine said, saying by saying: what is for transports of its node's boot, and for one of them.
use Rattle.std.proofs.Common.{◌≡◌, refl, sym, ap, ◌∙◌, ℕ, suc, ◌+◌, ◌<◌, ◌≤◌, arith, List, [], ◌∷◌, ◌++◌, length, map}
use Rattle.std.proofs.Common.{subst, inl, inr, Bool, true, false, cond, eqb, ◌&&◌}
use Rattle.std.specs.List.{flat_map}
use Rattle.std.proofs.lemmas.Bool.{eq-eqb, cases_eq, ne_eqb}
use Rattle.std.proofs.lemmas.List.{append_assoc, append-nil}
use Rattle.paxos_packets.specs.declared.entry.Entry.{Entry}
use Rattle.paxos_packets.specs.declared.transport.Transport.{Transport}
use Rattle.paxos_packets.specs.Transport.{same_transport}
use Rattle.replica_machine.specs.Replay.{Machine, sayings_behind, sayings_by_slot}
use Rattle.replica_machine.proofs.Replaying.{sayings_by_slots}
use Rattle.replica_follower.specs.Following.{said_to, said_in_boot, is_of, handed_to}
use Rattle.replica_follower.proofs.Handing.{transport_is}

-- one saying further on, with b for whether it counts

pub said_one : {Y : Type 0} (b : Bool) (old new : List Y) (y : Y) (rest total : List Y) → new ≡ old ++ cond b (y ∷ []) []
    → old ++ cond b (y ∷ rest) rest ≡ total → new ++ rest ≡ total
said_one true old new y rest total a h = ap (λ l. l ++ rest) a ∙ append_assoc old (y ∷ []) rest ∙ h
said_one false old new y rest total a h = ap (λ l. l ++ rest) (a ∙ append-nil old) ∙ h

pub room_one : {Y : Type 0} (b : Bool) (old new : ℕ) (y : Y) (rest : List Y) → old ≡ new + cond b 1 0
    → length (cond b (y ∷ rest) rest) ≤ old → length rest ≤ new
room_one true old new y rest a h = omega arith
room_one false old new y rest a h = omega arith

pub count_one : {Y : Type 0} (b : Bool) (old new whole total : ℕ) (y : Y) (rest : List Y) → old ≡ new + cond b 1 0
    → old + whole ≡ total + length (cond b (y ∷ rest) rest) → new + whole ≡ total + length rest
count_one true old new whole total y rest a h = omega arith
count_one false old new whole total y rest a h = omega arith

pub more_one : {Y : Type 0} (b : Bool) (old new total : ℕ) (y : Y) (rest : List Y) → new ≡ old + cond b 1 0
    → old + length (cond b (y ∷ rest) rest) ≡ total → new + length rest ≡ total
more_one true old new total y rest a h = omega arith
more_one false old new total y rest a h = omega arith

-- the first one counts for its own transport
pub counts : {Y : Type 0} (to : Y → Transport) (y : Y) (ys : List Y) (room : ℕ) → length (said_to to (to y) (y ∷ ys)) ≤ room → 0 < room
counts to y ys room h =
    let t = to y in
    let rest = said_to to t ys in
    let is : same_transport t t ≡ true =
    ap (λ b. b && (eqb t.boot t.boot && eqb t.number t.number)) (eq-eqb t.node t.node refl)
    ∙ ap (λ b. b && eqb t.number t.number) (eq-eqb t.boot t.boot refl)
    ∙ eq-eqb t.number t.number refl in
    let more : suc (length rest) ≤ room = subst (λ b. length (cond b (y ∷ rest) rest) ≤ room) is h in
    omega arith

-- what is for a transport is among what is for its boot, and among nothing else

eqb_sym : (a b : ℕ) → eqb a b ≡ eqb b a
eqb_sym a b = elim (cases_eq a b) [
  | inl e ↦ eq-eqb a b e ∙ sym (eq-eqb b a (sym e))
  | inr n ↦ ne_eqb a b n ∙ sym (ne_eqb b a (λ e. n (sym e)))
]

-- of what is for the boot, keep what is for the transport: b and c are the tests of an item, i says whether the transport is of the boot
kept_both : {Y : Type 0} (b c i : Bool) (y : Y) (xs ys : List Y) → (c ≡ true → b ≡ i) → xs ≡ cond i ys []
    → cond b (cond c (y ∷ xs) xs) xs ≡ cond i (cond c (y ∷ ys) ys) []
kept_both true true true y xs ys f h = ap (λ l. y ∷ l) h
kept_both true true false y xs ys f h = let z : true ≡ false = f refl in cc
kept_both false true true y xs ys f h = let z : false ≡ true = f refl in cc
kept_both false true false y xs ys f h = h
kept_both true false i y xs ys f h = h
kept_both false false i y xs ys f h = h

module _ {Y : Type 0} (to : Y → Transport) (t : Transport) (node boot : ℕ) where
  abbrev is_its : Bool
  is_its = eqb node t.node && eqb boot t.boot

  its : (u : Transport) → same_transport u t ≡ true → is_of node boot u ≡ is_its
  its u h =
      ap (λ v. is_of node boot v) (sym (transport_is u t h))
      ∙ ap (λ b. b && eqb t.boot boot) (eqb_sym t.node node)
      ∙ ap (λ b. eqb node t.node && b) (eqb_sym t.boot boot)

  pub said_of : (ys : List Y) → said_to to t (said_in_boot to node boot ys) ≡ cond is_its (said_to to t ys) []
  said_of [] = go is_its
    where
      go : (i : Bool) → [] ≡ cond {A = List Y} i [] []
      go true = refl
      go false = refl
  said_of (y ∷ ys) =
      open_one (is_of node boot (to y)) (said_in_boot to node boot ys)
      ∙ kept_both (is_of node boot (to y)) (same_transport (to y) t) is_its y (said_to to t (said_in_boot to node boot ys)) (said_to to t ys)
      (its (to y)) (said_of ys)
    where
      open_one : (b : Bool) (xs : List Y) → said_to to t (cond b (y ∷ xs) xs)
          ≡ cond b (cond (same_transport (to y) t) (y ∷ said_to to t xs) (said_to to t xs)) (said_to to t xs)
      open_one true xs = refl
      open_one false xs = refl

-- what is said entry by entry is one list

flat : {A C : Type 0} (f : A → List C) (xs : List A) → flat_map f xs ≡ flat_map (λ ys. ys) (map f xs)
flat f [] = refl
flat f (x ∷ xs) = ap (λ l. f x ++ l) (flat f xs)

-- what is picked of it is what a transport is handed
pub handed_is : {A B S Y : Type 0} (m : Machine B S Y) (f : A → List Y) (said : List A) (t : Transport) (node boot : ℕ) (log es : List (Entry B))
    → map f said ≡ sayings_by_slot m log es
    → said_to m.to t (said_in_boot m.to node boot (flat_map f said)) ≡ handed_to m t node boot log es
handed_is m f said t node boot log es is =
    ap (λ ys. said_to m.to t (said_in_boot m.to node boot ys)) (flat f said ∙ (ap (λ l. flat_map (λ ys. ys) l) is ∙ sayings_by_slots m log es))
    ∙ said_of m.to t node boot (sayings_behind m log es)
