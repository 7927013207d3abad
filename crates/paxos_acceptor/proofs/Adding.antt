-- Changes add up: votes that are put one after another, and the sum of changes.
use Rattle.std.proofs.Common.{◌≡◌, ℕ, ◌<◌, Bool, true, false, cond, ltb, eqb, Option, Some, None, List, [], ◌∷◌, refl, sym, ap, subst, ◌∙◌, arith}
use Rattle.std.proofs.lemmas.Bool.{eqb-true, ltb-true}
use Rattle.std.proofs.lemmas.Bool.Decides.{nat_tests}
use Rattle.std.specs.Option.{option_or}
use Rattle.paxos_packets.specs.Rows.{rows_equal, kept_votes}
use Rattle.paxos_packets.specs.Snapshot.{Snapshot}
use Rattle.paxos_packets.specs.Vote.{put_vote, put_votes}
use Rattle.paxos_packets.specs.declared.ballot.Ballot.{Ballot}
use Rattle.paxos_packets.specs.declared.rows.Change.{Change}
use Rattle.paxos_packets.specs.declared.rows.Rows.{Rows}
use Rattle.paxos_packets.specs.declared.vote.Vote.{Vote}
use Rattle.paxos_packets.proofs.Ascending.{AllAfter, Ascends}
use Rattle.paxos_packets.proofs.Placing.{put_ascending}
use Rattle.paxos_acceptor.specs.Acceptor.{adopted}
use Rattle.paxos_acceptor.specs.Ahead.{both}

lower : (a b : ℕ) → a < b → ltb a b ≡ true
lower a b l = grind (arith, nat_tests)

not_lower : (a b : ℕ) → a < b → ltb b a ≡ false
not_lower a b l = grind (arith, nat_tests)

apart : (a b : ℕ) → a < b → eqb a b ≡ false
apart a b l = grind (arith, nat_tests)

apart_back : (a b : ℕ) → a < b → eqb b a ≡ false
apart_back a b l = grind (arith, nat_tests)

above : (a b : ℕ) → eqb a b ≡ false → ltb a b ≡ false → b < a
above a b e l = grind (arith, nat_tests)

same_test : (n : ℕ) → eqb n n ≡ true
same_test n = grind (arith, nat_tests)

-- the later one of two votes for a slot stays

twice_in : {B : Type 0} (v w : Vote B) → v.slot ≡ w.slot → (us : List (Vote B)) → put_vote v (put_vote w us) ≡ put_vote v us
twice_in v w e [] = let m : eqb v.slot w.slot ≡ true = ap (λ k. eqb k w.slot) e ∙ same_test w.slot in rw m refl
twice_in {B} v w e (u ∷ us) = go (eqb w.slot u.slot) (ltb w.slot u.slot) refl refl (twice_in v w e us)
  where
    go : (a b : Bool) → eqb w.slot u.slot ≡ a → ltb w.slot u.slot ≡ b → put_vote v (put_vote w us) ≡ put_vote v us
        → put_vote v (cond a (w ∷ us) (cond b (w ∷ (u ∷ us)) (u ∷ put_vote w us)))
        ≡ cond (eqb v.slot u.slot) (v ∷ us) (cond (ltb v.slot u.slot) (v ∷ (u ∷ us)) (u ∷ put_vote v us))
    go true b p q more =
        let m : eqb v.slot w.slot ≡ true = ap (λ k. eqb k w.slot) e ∙ same_test w.slot in
        let n : eqb v.slot u.slot ≡ true = ap (λ k. eqb k u.slot) e ∙ p in
        rw (m, n) refl
    go false true p q more =
        let m : eqb v.slot w.slot ≡ true = ap (λ k. eqb k w.slot) e ∙ same_test w.slot in
        let n : eqb v.slot u.slot ≡ false = ap (λ k. eqb k u.slot) e ∙ p in
        let o : ltb v.slot u.slot ≡ true = ap (λ k. ltb k u.slot) e ∙ q in
        rw (m, n, o) refl
    go false false p q more =
        let n : eqb v.slot u.slot ≡ false = ap (λ k. eqb k u.slot) e ∙ p in
        let o : ltb v.slot u.slot ≡ false = ap (λ k. ltb k u.slot) e ∙ q in
        rw (n, o) (ap (λ ws. u ∷ ws) more)

-- votes for two slots are put in either order

swapped_at : {B : Type 0} (v w u : Vote B) (us : List (Vote B)) → v.slot < w.slot → eqb w.slot u.slot ≡ false → ltb w.slot u.slot ≡ false
    → put_vote v (put_vote w us) ≡ put_vote w (put_vote v us) → (a b : Bool)
    → cond a (v ∷ put_vote w us) (cond b (v ∷ (u ∷ put_vote w us)) (u ∷ put_vote v (put_vote w us)))
    ≡ put_vote w (cond a (v ∷ us) (cond b (v ∷ (u ∷ us)) (u ∷ put_vote v us)))
swapped_at v w u us l r s more true b = rw (apart_back v.slot w.slot l, not_lower v.slot w.slot l) refl
swapped_at v w u us l r s more false true = rw (apart_back v.slot w.slot l, not_lower v.slot w.slot l, r, s) refl
swapped_at {B} v w u us l r s more false false = rw (r, s) (ap (λ (ws : List (Vote B)). u ∷ ws) more)

swapped : {B : Type 0} (v w : Vote B) → v.slot < w.slot → (us : List (Vote B)) → put_vote v (put_vote w us) ≡ put_vote w (put_vote v us)
swapped v w l [] = rw (apart v.slot w.slot l, lower v.slot w.slot l, apart_back v.slot w.slot l, not_lower v.slot w.slot l) refl
swapped {B} v w l (u ∷ us) = by_w (eqb w.slot u.slot) (ltb w.slot u.slot) refl refl (swapped v w l us)
  where
    by_w : (c d : Bool) → eqb w.slot u.slot ≡ c → ltb w.slot u.slot ≡ d → put_vote v (put_vote w us) ≡ put_vote w (put_vote v us)
        → put_vote v (cond c (w ∷ us) (cond d (w ∷ (u ∷ us)) (u ∷ put_vote w us)))
        ≡ put_vote w (cond (eqb v.slot u.slot) (v ∷ us) (cond (ltb v.slot u.slot) (v ∷ (u ∷ us)) (u ∷ put_vote v us)))
    by_w true d p q more =
        let e = eqb-true w.slot u.slot p in
        let k : v.slot < u.slot = omega (arith, e, l) in
        rw (
          apart v.slot u.slot k,
          lower v.slot u.slot k,
          apart v.slot w.slot l,
          lower v.slot w.slot l,
          apart_back v.slot w.slot l,
          not_lower v.slot w.slot l,
          p,
        ) refl
    by_w false true p q more =
        let e = ltb-true w.slot u.slot q in
        let k : v.slot < u.slot = omega (arith, e, l) in
        rw (
          apart v.slot u.slot k,
          lower v.slot u.slot k,
          apart v.slot w.slot l,
          lower v.slot w.slot l,
          apart_back v.slot w.slot l,
          not_lower v.slot w.slot l,
          p,
          q,
        ) refl
    by_w false false p q more = swapped_at v w u us l p q more (eqb v.slot u.slot) (ltb v.slot u.slot)

-- a vote that comes before others is put in either order
before : {B : Type 0} (v : Vote B) (vs us : List (Vote B)) → AllAfter v.slot vs → put_votes vs (put_vote v us) ≡ put_vote v (put_votes vs us)
before v [] us h = refl
before {B} v (x ∷ xs) us h =
    ap (λ (ws : List (Vote B)). put_votes xs ws) (sym (swapped v x h.0 us)) ∙ before v xs (put_vote x us) h.1

-- one vote more

at_first : {B : Type 0} (v w : Vote B) (ws us : List (Vote B)) → AllAfter w.slot ws
    → put_votes (put_vote v ws) (put_vote w us) ≡ put_vote v (put_votes ws (put_vote w us))
    → (a b : Bool) → eqb v.slot w.slot ≡ a → ltb v.slot w.slot ≡ b
    → put_votes (cond a (v ∷ ws) (cond b (v ∷ (w ∷ ws)) (w ∷ put_vote v ws))) us ≡ put_vote v (put_votes ws (put_vote w us))
at_first {B} v w ws us after more true b p q =
    let e = eqb-true v.slot w.slot p in
    let h : AllAfter v.slot ws = subst (λ k. AllAfter k ws) (sym e) after in
    ap (λ (xs : List (Vote B)). put_votes ws xs) (sym (twice_in v w e us)) ∙ before v ws (put_vote w us) h
at_first {B} v w ws us after more false true p q =
    let l = ltb-true v.slot w.slot q in
    before v (w ∷ ws) us (l, later v.slot w.slot ws l after)
  where
    later : (low slot : ℕ) (vs : List (Vote B)) → low < slot → AllAfter slot vs → AllAfter low vs
    later low slot [] l h = tt
    later low slot (x ∷ xs) l h = (let k : slot < x.slot = h.0 in omega (arith, k, l), later low slot xs l h.1)
at_first v w ws us after more false false p q = more

put_one : {B : Type 0} (v : Vote B) (old us : List (Vote B)) → Ascends old → put_votes (put_vote v old) us ≡ put_vote v (put_votes old us)
put_one v [] us h = refl
put_one v (w ∷ ws) us h =
    at_first v w ws us h.0 (put_one v ws (put_vote w us) h.1) (eqb v.slot w.slot) (ltb v.slot w.slot) refl refl

-- votes, and those that were put before them
pub put_sum : {B : Type 0} (new old us : List (Vote B)) → Ascends old → put_votes (put_votes new old) us ≡ put_votes new (put_votes old us)
put_sum [] old us h = refl
put_sum {B} (v ∷ vs) old us h =
    put_sum vs (put_vote v old) us (put_ascending v old h) ∙ ap (λ (ws : List (Vote B)). put_votes vs ws) (put_one v old us h)

pub sum_ascends : {B : Type 0} (new old : List (Vote B)) → Ascends old → Ascends (put_votes new old)
sum_ascends [] old h = h
sum_ascends (v ∷ vs) old h = sum_ascends vs (put_vote v old) (put_ascending v old h)

-- changes

promise_sum : (b a r : Option Ballot) → option_or (option_or b a) r ≡ option_or b (option_or a r)
promise_sum None a r = refl
promise_sum (Some x) a r = refl

no_snapshot : (b a : Option Snapshot) → b ≡ None → a ≡ option_or b a
no_snapshot None a e = refl
no_snapshot (Some s) a e = cc

none_forgotten : {B : Type 0} (b : Option Snapshot) (votes : List (Vote B)) → b ≡ None → votes ≡ kept_votes b votes
none_forgotten None votes e = refl
none_forgotten (Some s) votes e = cc

pub adds_up : {B : Type 0} (rows : Rows B) (a b : Change B) → Ascends a.votes → b.snapshot ≡ None
    → adopted rows (both a b) ≡ adopted (adopted rows a) b
adds_up {B} rows a b h none =
    rows_equal (adopted rows (both a b)) (adopted (adopted rows a) b) refl (promise_sum b.promised a.promised rows.promised)
    (no_snapshot b.snapshot (option_or a.snapshot rows.snapshot) none)
    (put_sum b.votes a.votes (kept_votes a.snapshot rows.votes) h
    ∙ ap (λ (ws : List (Vote B)). put_votes b.votes ws)
    (none_forgotten b.snapshot (put_votes a.votes (kept_votes a.snapshot rows.votes)) none))
