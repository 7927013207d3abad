-- A change that the rows have leaves them as they are.
use Rattle.std.proofs.Common.{◌≡◌, ℕ, ◌<◌, ◌≤◌, Bool, true, false, cond, ◌&&◌, ltb, eqb, Option, Some, None, is_none, List, [], ◌∷◌, refl, sym, ap, ◌∙◌, eq-eqb, arith}
use Rattle.std.proofs.lemmas.Bool.{and_parts, eqb-true, ltb-true}
use Rattle.std.proofs.lemmas.Bool.Decides.{nat_tests}
use Rattle.std.specs.List.{list_all}
use Rattle.std.specs.Option.{option_or}
use Rattle.paxos_packets.specs.Ballot.{ballot_sound}
use Rattle.paxos_packets.specs.Body.{IsEquality}
use Rattle.paxos_packets.specs.Rows.{rows_equal, kept_votes}
use Rattle.paxos_packets.specs.Snapshot.{Snapshot}
use Rattle.paxos_packets.specs.Vote.{IsAscending, put_vote, put_votes, vote_in, vote_equality}
use Rattle.paxos_packets.specs.declared.ballot.Ballot.{Ballot}
use Rattle.paxos_packets.specs.declared.rows.Change.{Change}
use Rattle.paxos_packets.specs.declared.rows.Rows.{Rows}
use Rattle.paxos_packets.specs.declared.vote.Vote.{Vote}
use Rattle.paxos_packets.proofs.Ascending.{AllAfter, Ascends, ascends}
use Rattle.paxos_acceptor.specs.Acceptor.{adopted, has_promise, is_vote, has_vote, has_all}

promise_kept : (held new : Option Ballot) → has_promise held new ≡ true → option_or new held ≡ held
promise_kept held None h = refl
promise_kept None (Some b) h = cc
promise_kept (Some p) (Some b) h = ap Some (sym (ballot_sound p b h))

differ : (a b : ℕ) → a < b → eqb b a ≡ false
differ a b l = grind (arith, nat_tests)

other_way : (a b : ℕ) → eqb a b ≡ false → eqb b a ≡ false
other_way a b e = grind (arith, nat_tests)

none_after : {B : Type 0} (slot low : ℕ) (vs : List (Vote B)) → low ≤ slot → AllAfter slot vs → vote_in low vs ≡ None
none_after slot low [] g h = refl
none_after slot low (v ∷ vs) g h =
    let k : slot < v.slot = h.0 in
    let e : eqb v.slot low ≡ false = differ low v.slot (omega arith) in
    rw e (none_after slot low vs g h.1)

put_same : {B : Type 0} (v : Vote B) (ws : List (Vote B)) → Ascends ws → vote_in v.slot ws ≡ Some v → put_vote v ws ≡ ws
put_same v [] h e = cc
put_same {B} v (w ∷ ws) h e = go (eqb v.slot w.slot) (ltb v.slot w.slot) refl refl (put_same v ws h.1)
  where
    go : (a b : Bool) → eqb v.slot w.slot ≡ a → ltb v.slot w.slot ≡ b → (vote_in v.slot ws ≡ Some v → put_vote v ws ≡ ws)
        → cond a (v ∷ ws) (cond b (v ∷ (w ∷ ws)) (w ∷ put_vote v ws)) ≡ w ∷ ws
    go true b p q more =
        let k : eqb w.slot v.slot ≡ true = eq-eqb w.slot v.slot (sym (eqb-true v.slot w.slot p)) in
        let f : ◌≡◌ {A = Option (Vote B)} (Some w) (Some v) = rw k at e in
        cc
    go false true p q more =
        let l : v.slot < w.slot = ltb-true v.slot w.slot q in
        let k : eqb w.slot v.slot ≡ false = differ v.slot w.slot l in
        let f : vote_in v.slot ws ≡ Some v = rw k at e in
        let n : vote_in v.slot ws ≡ None = none_after w.slot v.slot ws (omega arith) h.0 in
        let o : ◌≡◌ {A = Option (Vote B)} None (Some v) = sym n ∙ f in
        cc
    go false false p q more =
        let k : eqb w.slot v.slot ≡ false = other_way v.slot w.slot p in
        let f : vote_in v.slot ws ≡ Some v = rw k at e in
        ap (λ us. w ∷ us) (more f)

vote_kept : {B : Type 0} (same : B → B → Bool) → IsEquality same → (v : Vote B) (ws : List (Vote B)) → Ascends ws
    → has_vote same ws v ≡ true → put_vote v ws ≡ ws
vote_kept {B} same ok v ws h e = go (vote_in v.slot ws) refl e
  where
    go : (o : Option (Vote B)) → vote_in v.slot ws ≡ o → is_vote same v o ≡ true → put_vote v ws ≡ ws
    go None p k = cc
    go (Some w) p k = put_same v ws h (p ∙ ap Some ((vote_equality same ok).sound w v k))

votes_kept : {B : Type 0} (same : B → B → Bool) → IsEquality same → (vs ws : List (Vote B)) → Ascends ws
    → list_all (has_vote same ws) vs ≡ true → put_votes vs ws ≡ ws
votes_kept same ok [] ws h e = refl
votes_kept same ok (v ∷ vs) ws h e =
    let k = and_parts (has_vote same ws v) (list_all (has_vote same ws) vs) e in
    rw (vote_kept same ok v ws h k.0) (votes_kept same ok vs ws h k.1)

-- without a snapshot nothing is forgotten

none_new : (new held : Option Snapshot) → is_none new ≡ true → option_or new held ≡ held
none_new None held h = refl
none_new (Some s) held h = cc

none_forgotten : {B : Type 0} (new : Option Snapshot) (votes : List (Vote B)) → is_none new ≡ true → kept_votes new votes ≡ votes
none_forgotten None votes h = refl
none_forgotten (Some s) votes h = cc

-- the rows have all of the change
pub adds_nothing : {B : Type 0} (same : B → B → Bool) → IsEquality same → (rows : Rows B) (change : Change B) → IsAscending rows.votes
    → has_all same rows change ≡ true → adopted rows change ≡ rows
adds_nothing same ok rows change h e =
    let l =
    and_parts (is_none change.snapshot)
    (has_promise rows.promised change.promised && list_all (has_vote same rows.votes) change.votes) e in
    let k = and_parts (has_promise rows.promised change.promised) (list_all (has_vote same rows.votes) change.votes) l.1 in
    rows_equal (adopted rows change) rows refl (promise_kept rows.promised change.promised k.0) (none_new change.snapshot rows.snapshot l.0)
    (ap (λ (vs : List (Vote _)). put_votes change.votes vs) (none_forgotten change.snapshot rows.votes l.0)
    ∙ votes_kept same ok change.votes rows.votes (ascends rows.votes h) k.1)
