-- The best report of a slot, and the greatest slot reported, one promise after the other.
use Rattle.std.proofs.Common.{◌≡◌, ⊎_elim, ℕ, zero, suc, ◌+◌, ◌-◌, ◌<◌, ◌≤◌, max, Bool, true, false, cond, Option, Some, None, List, [], ◌∷◌}
use Rattle.std.proofs.Common.{◌++◌, eqb, length, get_or, drop, refl, sym, ap, ◌∙◌, subst, append_assoc, append-nil, add-one, drop-cons, arith}
use Rattle.std.proofs.lemmas.Bool.{eqb-true}
use Rattle.paxos_packets.proofs.Ascending.{Ascends, AllAfter, ascends}
use Rattle.paxos_packets.proofs.Order.{transitive, total}
use Rattle.std.proofs.Math.Nat.{max_comm}
use Rattle.std.proofs.lemmas.Bool.Decides.{nat_tests}
use Rattle.paxos_packets.specs.Ballot.{below}
use Rattle.paxos_packets.specs.Vote.{IsAscending, vote_in}
use Rattle.paxos_packets.specs.declared.vote.Vote.{Vote}
use Rattle.paxos_proposer.specs.declared.promises.CountedPromise.{CountedPromise}
use Rattle.paxos_packets.specs.declared.entry.Entry.{Entry}
use Rattle.paxos_proposer.specs.Promises.{and_promise_of, above_floors}
use Rattle.paxos_proposer.specs.Reports.{reports, best, better, greater, past_reports, entry_or_noop, called_in}

-- the rest of a list

pub rest_is : {X : Type 0} (xs : List X) (i : ℕ) (x : X) → i < length xs → x ≡ get_or xs i x → drop i xs ≡ x ∷ drop (i + 1) xs
rest_is xs i x l e = rw (add-one, drop-cons xs i x) (ap (λ y. y ∷ drop (suc i) xs) (sym e))

pub drop_all : {X : Type 0} (xs : List X) (i : ℕ) → length xs ≤ i → drop i xs ≡ []
drop_all [] zero l = refl
drop_all [] (suc i) l = refl
drop_all (x ∷ xs) zero l = absurd (omega arith)
drop_all (x ∷ xs) (suc i) l = drop_all xs i (omega arith)

-- the better of three

pub greater_none : {B : Type 0} (o : Option (Vote B)) → greater o None ≡ o
greater_none None = refl
greater_none (Some v) = refl

pub greater_join : {B : Type 0} (o p q : Option (Vote B)) → greater (greater o p) q ≡ greater o (greater p q)
greater_join None p q = refl
greater_join (Some u) None q = refl
greater_join (Some u) (Some v) None = greater_none (greater (Some u) (Some v))
greater_join {B} (Some u) (Some v) (Some w) = go (below v.ballot u.ballot) (below w.ballot v.ballot) (below w.ballot u.ballot) refl refl refl
  where
    go : (x y z : Bool) → below v.ballot u.ballot ≡ x → below w.ballot v.ballot ≡ y → below w.ballot u.ballot ≡ z
        → greater (cond x (Some u) (Some v)) (Some w) ≡ greater (Some u) (cond y (Some v) (Some w))
    go true true z p q r = rw (transitive w.ballot v.ballot u.ballot q p, p) refl
    go true false z p q r = refl
    go false true z p q r = rw (q, p) refl
    go false false true p q r =
        ⊎_elim (λ l. let h = transitive w.ballot u.ballot v.ballot r l in absurd (cc))
        (λ k. ⊎_elim (λ e. let h = subst (λ b. below w.ballot b ≡ true) e r in absurd (cc)) (λ l. absurd (cc)) k)
        (total u.ballot v.ballot)
    go false false false p q r = rw (q, r) refl

-- the reports of one promise in front of others

better_other : {B : Type 0} (slot : ℕ) (v : Vote B) (o : Option (Vote B)) → eqb v.slot slot ≡ false → better slot v o ≡ o
better_other slot v None e = rw e refl
better_other slot v (Some w) e = rw e refl

better_is : {B : Type 0} (slot : ℕ) (v : Vote B) (o : Option (Vote B)) → eqb v.slot slot ≡ true → better slot v o ≡ greater (Some v) o
better_is slot v None e = rw e refl
better_is slot v (Some w) e = rw e refl

not_eq : (a b : ℕ) → (a ≡ b → ⊥) → eqb a b ≡ false
not_eq a b h = grind (arith, nat_tests)

none_after : {B : Type 0} (slot : ℕ) (vs : List (Vote B)) → AllAfter slot vs → vote_in slot vs ≡ None
none_after slot [] g = refl
none_after slot (v ∷ vs) g =
    let k : slot < v.slot = g.0 in
    rw (not_eq v.slot slot (λ p. omega arith)) (none_after slot vs g.1)

best_after : {B : Type 0} (slot : ℕ) (vs ws : List (Vote B)) → vote_in slot vs ≡ None → best slot (vs ++ ws) ≡ best slot ws
best_after slot [] ws h = refl
best_after {B} slot (v ∷ vs) ws h = go (eqb v.slot slot) refl (λ n. best_after slot vs ws n)
  where
    go : (b : Bool) → eqb v.slot slot ≡ b → (vote_in slot vs ≡ None → best slot (vs ++ ws) ≡ best slot ws)
        → better slot v (best slot (vs ++ ws)) ≡ best slot ws
    go true e more = let k = rw e at h in absurd (cc)
    go false e more = let k = rw e at h in better_other slot v (best slot (vs ++ ws)) e ∙ more k

best_in_front : {B : Type 0} (slot : ℕ) (vs ws : List (Vote B)) → Ascends vs → best slot (vs ++ ws) ≡ greater (vote_in slot vs) (best slot ws)
best_in_front slot [] ws a = refl
best_in_front {B} slot (v ∷ vs) ws a = go (eqb v.slot slot) refl (best_in_front slot vs ws a.1)
  where
    go : (b : Bool) → eqb v.slot slot ≡ b → best slot (vs ++ ws) ≡ greater (vote_in slot vs) (best slot ws)
        → better slot v (best slot (vs ++ ws)) ≡ greater (cond b (Some v) (vote_in slot vs)) (best slot ws)
    go true e more =
        let p : v.slot ≡ slot = eqb-true v.slot slot e in
        let n = none_after slot vs (subst (λ k. AllAfter k vs) p a.0) in
        better_is slot v (best slot (vs ++ ws)) e ∙ ap (λ o. greater (Some v) o) (best_after slot vs ws n)
    go false e more = better_other slot v (best slot (vs ++ ws)) e ∙ more

pub best_front : {B : Type 0} (slot : ℕ) (vs ws : List (Vote B)) → IsAscending vs → best slot (vs ++ ws) ≡ greater (vote_in slot vs) (best slot ws)
best_front slot vs ws a = best_in_front slot vs ws (ascends vs a)

-- this is the vote for the slot among those of one promise
abbrev pub IsVoteFor : {B : Type 0} → ℕ → List (Vote B) → Option (Vote B) → Type 0
IsVoteFor {B} slot votes found = (others : List (Vote B)) → best slot (votes ++ others) ≡ greater found (best slot others)

-- one promise after the other
pub best_next : {B : Type 0} (slot i : ℕ) (so_far found o : Option (Vote B)) (c : CountedPromise B) (cs : List (CountedPromise B)) (last : List (Vote B))
    → i < length cs → c ≡ get_or cs i c → IsVoteFor slot c.votes found
    → greater so_far (best slot (reports (drop i cs) ++ last)) ≡ o
    → greater (greater so_far found) (best slot (reports (drop (i + 1) cs) ++ last)) ≡ o
best_next {B} slot i so_far found o c cs last l e f h =
    let rest = drop (i + 1) cs in
    let split : best slot (reports (drop i cs) ++ last) ≡ best slot (c.votes ++ (reports rest ++ last)) =
    ap (λ (ds : List (CountedPromise B)). best slot (reports ds ++ last)) (rest_is cs i c l e)
    ∙ ap (λ (us : List (Vote B)). best slot us) (append_assoc c.votes (reports rest) last) in
    greater_join so_far found (best slot (reports rest ++ last))
    ∙ (ap (λ (p : Option (Vote B)). greater so_far p) (sym (f (reports rest ++ last)) ∙ sym split) ∙ h)

pub best_last : {B : Type 0} (slot i : ℕ) (so_far found o : Option (Vote B)) (cs : List (CountedPromise B)) (last : List (Vote B))
    → length cs ≤ i → IsVoteFor slot last found → greater so_far (best slot (reports (drop i cs) ++ last)) ≡ o → greater so_far found ≡ o
best_last {B} slot i so_far found o cs last l f h =
    let alone : best slot last ≡ found = ap (λ (us : List (Vote B)). best slot us) (sym (append-nil last)) ∙ (f [] ∙ greater_none found) in
    ap (λ (p : Option (Vote B)). greater so_far p) (sym alone)
    ∙ (ap (λ (ds : List (CountedPromise B)). greater so_far (best slot (reports ds ++ last))) (sym (drop_all cs i l)) ∙ h)

-- reports of a promise more
pub reports_with : {B : Type 0} (node floor : ℕ) (votes : List (Vote B)) (cs : List (CountedPromise B))
    → reports (and_promise_of node floor votes cs) ≡ reports cs ++ votes
reports_with node floor votes [] = append-nil votes
reports_with node floor votes (c ∷ cs) = ap (λ vs. c.votes ++ vs) (reports_with node floor votes cs) ∙ sym (append_assoc c.votes (reports cs) votes)

-- the greatest slot

past_higher : {B : Type 0} (slot first : ℕ) (vs : List (Vote B)) → past_reports (max slot first) vs ≡ max slot (past_reports first vs)
past_higher slot first [] = refl
past_higher slot first (v ∷ vs) = let h = past_higher slot first vs in omega arith

pub past_front : {B : Type 0} (first : ℕ) (vs ws : List (Vote B)) → past_reports first (vs ++ ws) ≡ past_reports (past_reports first vs) ws
past_front first [] ws = refl
past_front {B} first (v ∷ vs) ws =
    ap (λ k. max (suc v.slot) k) (past_front first vs ws) ∙ sym (past_higher (suc v.slot) (past_reports first vs) ws)

pub past_next : {B : Type 0} (i past o : ℕ) (v : Vote B) (vs : List (Vote B)) → i < length vs → v ≡ get_or vs i v
    → past_reports past (drop i vs) ≡ o → past_reports (max past (v.slot + 1)) (drop (i + 1) vs) ≡ o
past_next i past o v vs l e h =
    let m : max (suc v.slot) (past_reports past (drop (i + 1) vs)) ≡ o = rw (rest_is vs i v l e) at h in
    rw (max_comm past (v.slot + 1), add-one v.slot) (past_higher (suc v.slot) past (drop (i + 1) vs) ∙ m)

pub past_promise : {B : Type 0} (i past o : ℕ) (c : CountedPromise B) (cs : List (CountedPromise B)) → i < length cs → c ≡ get_or cs i c
    → past_reports past (reports (drop i cs)) ≡ o → past_reports (past_reports past c.votes) (reports (drop (i + 1) cs)) ≡ o
past_promise {B} i past o c cs l e h =
    let split = ap (λ (ds : List (CountedPromise B)). past_reports past (reports ds)) (rest_is cs i c l e) in
    sym (past_front past c.votes (reports (drop (i + 1) cs))) ∙ (sym split ∙ h)

-- the first slot above each floor

pub above_next : {B : Type 0} (i slot o : ℕ) (c : CountedPromise B) (cs : List (CountedPromise B)) → i < length cs → c ≡ get_or cs i c
    → above_floors slot (drop i cs) ≡ o → above_floors (max slot (c.floor + 1)) (drop (i + 1) cs) ≡ o
above_next {B} i slot o c cs l e h =
    rw add-one (sym (ap (λ (ds : List (CountedPromise B)). above_floors slot ds) (rest_is cs i c l e)) ∙ h)

pub above_with : {B : Type 0} (slot node floor : ℕ) (votes : List (Vote B)) (cs : List (CountedPromise B))
    → above_floors slot (and_promise_of node floor votes cs) ≡ max (above_floors slot cs) (suc floor)
above_with slot node floor votes [] = refl
above_with slot node floor votes (c ∷ cs) = above_with (max slot (suc c.floor)) node floor votes cs

-- the entries called for

pub called_more : {B : Type 0} (es : List (Entry B)) (votes : List (Vote B)) (slot past : ℕ) → slot < past
    → (es ++ entry_or_noop (best slot votes) ∷ []) ++ called_in votes (slot + 1) (past - (slot + 1)) ≡ es ++ called_in votes slot (past - slot)
called_more es votes slot past l =
    let q : past - slot ≡ suc (past - (slot + 1)) = omega arith in
    rw (q, add-one, append_assoc) refl
