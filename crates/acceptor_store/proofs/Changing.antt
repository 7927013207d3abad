-- What a change that has a place makes of the numbers.
use Rattle.std.proofs.Common.{◌≡◌, ℕ, ◌||◌, arith, not, Bool, true, false, cond, List, [], ◌∷◌, Option, Some, None, refl, sym, ap, ◌∙◌, subst}
use Rattle.std.specs.Prelude.{nat_le, nat_lt, length, ◌&&◌, ◌==◌}
use Rattle.std.specs.List.{AllByRecursion, list_all}
use Rattle.std.specs.Option.{option_or}
use Rattle.std.proofs.lemmas.Bool.{and_parts, and_from, eqb-true}
use Rattle.paxos_packets.specs.declared.ballot.Ballot.{Ballot}
use Rattle.paxos_packets.specs.declared.vote.Vote.{Vote}
use Rattle.paxos_packets.specs.declared.rows.Change.{Change}
use Rattle.paxos_packets.specs.declared.rows.Rows.{Rows}
use Rattle.paxos_packets.specs.Rows.{kept_votes}
use Rattle.paxos_packets.specs.Snapshot.{Snapshot, floor_at, floor_in}
use Rattle.store_rows.specs.declared.rows.Numbers.{Numbers}
use Rattle.store_rows.specs.Rows.{is_number, is_promised}
use Rattle.acceptor_store.specs.Store.{NotLowered, Follows, written}
use Rattle.store_rows.specs.Numbers.{is_ballot, is_promise, are_numbers, numbers_in_rows}
use Rattle.store_rows.specs.Changes.{is_placed, is_lower, promise_after, floor_after, numbers_after}
use Rattle.store_rows.proofs.Options.{and_then_is}
use Rattle.acceptor_store.proofs.Keeping.{not_lowered, promise_is, nil_of}

passes : {A : Type 0} (test : A → Bool) (xs : List A) → list_all test xs ≡ true → AllByRecursion (λ x. test x ≡ true) xs
passes test [] h = tt
passes test (x ∷ xs) h = let k = and_parts (test x) (list_all test xs) h in (k.0, passes test xs k.1)

ballots_of : {B : Type 0} (promised : Option Ballot) (floor : ℕ) (votes : List (Vote B)) → AllByRecursion (λ v. is_placed promised floor v ≡ true) votes
    → AllByRecursion (λ v. is_ballot v.ballot ≡ true) votes
ballots_of promised floor [] h = tt
ballots_of promised floor (v ∷ vs) h =
    ((and_parts (is_ballot v.ballot) (is_promised promised v.ballot && nat_lt floor v.slot) h.0).0, ballots_of promised floor vs h.1)

promise_stands : (promised change next : Option Ballot) → promise_after promised change ≡ Some next → is_promise promised ≡ true → is_promise next ≡ true
promise_stands promised None next h k = let e : promised ≡ next = cc in subst (λ p. is_promise p ≡ true) e k
promise_stands promised (Some b) next h k = go (is_ballot b) (is_lower b promised) refl h
  where
    go : (x y : Bool) → is_ballot b ≡ x → cond (not x || y) None (Some (Some b)) ≡ Some next → is_promise next ≡ true
    go false y e h = absurd cc
    go true true e h = absurd cc
    go true false e h = let same : Some b ≡ next = cc in subst (λ p. is_promise p ≡ true) same e

pub record Places {B : Type 0} (known : Numbers) (change : Change B) (next : Numbers) : Type 0 where
  pub floor : floor_after known.floor change.snapshot ≡ Some next.floor
  pub boot : next.boot ≡ known.boot
  pub promised : next.promised ≡ option_or change.promised known.promised
  pub up : NotLowered known.promised next.promised
  pub placed : AllByRecursion (λ v. is_placed next.promised next.floor v ≡ true) change.votes
  pub ballots : AllByRecursion (λ v. is_ballot v.ballot ≡ true) change.votes
  pub numbers : are_numbers known ≡ true → are_numbers next ≡ true

pub places : {B : Type 0} (known : Numbers) (change : Change B) (next : Numbers) → numbers_after known change ≡ Some next → Places known change next
places {B} known change next h =
    let floor = and_then_is _ (floor_after known.floor change.snapshot) next h in
    let promised = and_then_is _ (promise_after known.promised change.promised) next floor.2 in
    go floor.0 promised.0 (list_all (is_placed promised.0 floor.0) change.votes) floor.1 promised.1 refl promised.2
  where
    made : (f : ℕ) (p : Option Ballot) → floor_after known.floor change.snapshot ≡ Some f → promise_after known.promised change.promised ≡ Some p
        → list_all (is_placed p f) change.votes ≡ true → Places known change (record { boot = known.boot; promised = p; floor = f })
    made f p at e all = record {
      floor = at;
      boot = refl;
      promised = promise_is known.promised change.promised p e;
      up = not_lowered known.promised change.promised p e;
      placed = passes (is_placed p f) change.votes all;
      ballots = ballots_of p f change.votes (passes (is_placed p f) change.votes all);
      numbers = λ n.
          let parts = and_parts (nat_le known.boot 281474976710655) (is_promise known.promised) n in
          and_from (nat_le known.boot 281474976710655) (is_promise p) parts.0 (promise_stands known.promised change.promised p e parts.1);
    }

    go : (f : ℕ) (p : Option Ballot) (b : Bool) → floor_after known.floor change.snapshot ≡ Some f → promise_after known.promised change.promised ≡ Some p
        → list_all (is_placed p f) change.votes ≡ b
        → cond (not b) None (Some (record { boot = known.boot; promised = p; floor = f })) ≡ Some next → Places known change next
    go f p false at e all h = absurd cc
    go f p true at e all h =
        let same : ◌≡◌ {A = Numbers} (record { boot = known.boot; promised = p; floor = f }) next = cc in
        subst (Places known change) same (made f p at e all)

-- what is written if there is nothing to write
pub written_none : {B : Type 0} (rows : Rows B) (numbers : Numbers) (snapshot : Option Snapshot) (votes : List (Vote B)) → numbers.boot ≡ rows.boot
    → numbers.promised ≡ rows.promised → snapshot ≡ None → votes ≡ [] → written numbers snapshot votes rows ≡ rows
written_none {B} rows numbers snapshot votes boots promises s v =
    subst (λ (vs : List (Vote B)). written numbers snapshot vs rows ≡ rows) (sym v)
    (subst (λ (t : Option Snapshot). written numbers t [] rows ≡ rows) (sym s) (λ i. record rows { boot = boots i; promised = promises i }))

pub no_votes : {A : Type 0} (xs : List A) → true ≡ (length xs == 0) → xs ≡ []
no_votes xs h = let none : length xs ≡ 0 = eqb-true (length xs) 0 (sym h) in nil_of xs (omega arith)

-- the floor after a snapshot is written
cut_floor : (floor next : ℕ) (new : Option Snapshot) (old : Option Snapshot) → floor_in old ≡ floor → floor_after floor new ≡ Some next → floor_in (option_or new old) ≡ next
cut_floor floor next None old at h = let e : floor ≡ next = cc in at ∙ e
cut_floor floor next (Some s) old at h = go (nat_lt floor s.floor && is_number s.floor (floor_at s.octets)) h
  where
    go : (b : Bool) → cond b (Some s.floor) None ≡ Some next → s.floor ≡ next
    go true h = cc
    go false h = absurd cc

-- the rows that are written have the numbers
pub written_numbers : {B : Type 0} (rows : Rows B) (n : Numbers) (snapshot : Option Snapshot) (votes : List (Vote B))
    → floor_after (floor_in rows.snapshot) snapshot ≡ Some n.floor → n ≡ numbers_in_rows (written n snapshot votes rows)
written_numbers rows n snapshot votes at =
    let floor = cut_floor (floor_in rows.snapshot) n.floor snapshot rows.snapshot refl at in
    λ i. record { boot = n.boot; promised = n.promised; floor = sym floor i }

-- the numbers after it follow without one
pub follows_cut : {B : Type 0} (puts : Bool) (rows : Rows B) (n : Numbers) (snapshot : Option Snapshot) → Follows puts rows n snapshot
    → Follows puts (record rows { snapshot = option_or snapshot rows.snapshot; votes = kept_votes snapshot rows.votes }) n None
follows_cut puts rows n snapshot f = record {
  same = f.same;
  up = f.up;
  floor = ap Some (cut_floor (floor_in rows.snapshot) n.floor snapshot rows.snapshot refl f.floor);
}

-- and the votes have a place over it
pub placed_cut : {B : Type 0} (rows : Rows B) (n : Numbers) (snapshot : Option Snapshot) (votes : List (Vote B)) → floor_after (floor_in rows.snapshot) snapshot ≡ Some n.floor
    → AllByRecursion (λ v. is_placed n.promised n.floor v ≡ true) votes
    → AllByRecursion (λ v. is_placed n.promised (floor_in (option_or snapshot rows.snapshot)) v ≡ true) votes
placed_cut rows n snapshot votes at placed =
    subst (λ floor. AllByRecursion (λ v. is_placed n.promised floor v ≡ true) votes) (sym (cut_floor (floor_in rows.snapshot) n.floor snapshot rows.snapshot refl at)) placed

-- numbers that are the same need not be put
pub follows_same : {B : Type 0} (rows : Rows B) (known n : Numbers) (snapshot : Option Snapshot) → Follows true rows n snapshot → known ≡ numbers_in_rows rows
    → (n.boot ≡ known.boot) × (n.promised ≡ known.promised) → Follows false rows n snapshot
follows_same rows known n snapshot f same e = record {
  same = λ _. (e.0 ∙ ap (λ (m : Numbers). m.boot) same, e.1 ∙ ap (λ (m : Numbers). m.promised) same);
  up = f.up;
  floor = f.floor;
}
