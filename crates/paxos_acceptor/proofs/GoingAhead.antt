-- Rows go ahead of those that are committed, and back.
use Rattle.std.proofs.Common.{◌≡◌, ℕ, ◌<◌, Bool, true, false, cond, eqb, Option, Some, None, List, [], ◌∷◌, ◌++◌, refl, sym, ap, subst, ◌∙◌, arith, Result, Ok, Err}
use Rattle.std.specs.Prelude.{OnOk}
use Rattle.std.proofs.lemmas.Bool.{eqb-true}
use Rattle.std.proofs.lemmas.Bool.Decides.{nat_tests}
use Rattle.std.specs.Option.{option_or}
use Rattle.paxos_packets.specs.Rows.{rows_equal, kept_votes}
use Rattle.paxos_packets.specs.Snapshot.{Snapshot}
use Rattle.paxos_packets.specs.Vote.{IsAscending, put_back, put_vote, put_votes, vote_in}
use Rattle.paxos_packets.specs.declared.rows.Change.{Change}
use Rattle.paxos_packets.specs.declared.rows.Rows.{Rows}
use Rattle.paxos_packets.specs.declared.vote.Vote.{Vote}
use Rattle.paxos_packets.proofs.Ascending.{AllAfter, Ascends, ascends}
use Rattle.paxos_packets.proofs.Placing.{put_ascending, vote_in-put}
use Rattle.paxos_packets.proofs.PuttingBack.{back_put}
use Rattle.paxos_acceptor.specs.Acceptor.{adopted}
use Rattle.paxos_acceptor.specs.Ahead.{had, put_all_back, put_had, replaced_by, taken_back, with_change, IsAhead, Noted}
use Rattle.paxos_acceptor.specs.declared.ahead.Replaced.{Replaced}
use Rattle.paxos_acceptor.proofs.Adding.{adds_up}

apart : (a b : ℕ) → a < b → eqb a b ≡ false
apart a b l = grind (arith, nat_tests)

-- a vote that is found in a slot is one for the slot
found_slot : {B : Type 0} (slot : ℕ) (vs : List (Vote B)) (w : Vote B) → vote_in slot vs ≡ Some w → w.slot ≡ slot
found_slot slot [] w e = cc
found_slot {B} slot (v ∷ vs) w e = go (eqb v.slot slot) refl e (found_slot slot vs w)
  where
    go : (b : Bool) → eqb v.slot slot ≡ b → cond b (Some v) (vote_in slot vs) ≡ Some w → (vote_in slot vs ≡ Some w → w.slot ≡ slot)
        → w.slot ≡ slot
    go true p f more = let q : v ≡ w = cc in ap (λ (x : Vote B). x.slot) (sym q) ∙ eqb-true v.slot slot p
    go false p f more = more f

-- what a slot had, put back
had_back : {B : Type 0} (slot : ℕ) (found : Option (Vote B)) (us : List (Vote B)) → ((w : Vote B) → found ≡ Some w → w.slot ≡ slot)
    → put_had (had slot found) us ≡ put_back slot found us
had_back slot None us is = refl
had_back slot (Some w) us is = ap (λ k. put_back k (Some w) us) (is w refl)

-- what later votes replace is not another for an earlier one
replaced_still : {B : Type 0} (v : Vote B) (vs held : List (Vote B)) → AllAfter v.slot vs
    → replaced_by vs (put_vote v held) ≡ replaced_by vs held
replaced_still v [] held h = refl
replaced_still {B} v (x ∷ xs) held h =
    let other : eqb v.slot x.slot ≡ false = apart v.slot x.slot h.0 in
    let same : vote_in x.slot (put_vote v held) ≡ vote_in x.slot held =
    vote_in-put v held x.slot ∙ ap (λ b. cond b (Some v) (vote_in x.slot held)) other in
    let rest = replaced_still v xs held h.1 in
    λ i. had x.slot (same i) ∷ rest i

pub votes_back : {B : Type 0} (vs held : List (Vote B)) → Ascends vs → Ascends held
    → put_all_back (replaced_by vs held) (put_votes vs held) ≡ held
votes_back [] held h k = refl
votes_back {B} (v ∷ vs) held h k =
    let rest : put_all_back (replaced_by vs (put_vote v held)) (put_votes vs (put_vote v held)) ≡ put_vote v held =
    votes_back vs (put_vote v held) h.1 (put_ascending v held k) in
    let still : put_all_back (replaced_by vs held) (put_votes vs (put_vote v held)) ≡ put_vote v held =
    ap (λ (rs : List (Replaced B)). put_all_back rs (put_votes vs (put_vote v held))) (sym (replaced_still v vs held h.0)) ∙ rest in
    ap (put_had (had v.slot (vote_in v.slot held))) still
    ∙ (had_back v.slot (vote_in v.slot held) (put_vote v held) (found_slot v.slot held) ∙ back_put v held k)

-- of two lists the later one comes first
pub back_more : {B : Type 0} (rs more : List (Replaced B)) (votes : List (Vote B))
    → put_all_back (rs ++ more) votes ≡ put_all_back rs (put_all_back more votes)
back_more [] more votes = refl
back_more (r ∷ rs) more votes = ap (put_had r) (back_more rs more votes)

no_snapshot : (b a : Option Snapshot) → b ≡ None → option_or b a ≡ a
no_snapshot None a e = refl
no_snapshot (Some s) a e = cc

none_forgotten : {B : Type 0} (b : Option Snapshot) (votes : List (Vote B)) → b ≡ None → kept_votes b votes ≡ votes
none_forgotten None votes e = refl
none_forgotten (Some s) votes e = cc

-- rows that adopt one change more without a snapshot are ahead by what was planned, and the change
pub goes_ahead : {B : Type 0} (kept rows : Rows B) (p : Noted B) (c : Change B) → c.snapshot ≡ None → IsAscending p.change.votes
    → IsAscending c.votes → IsAscending rows.votes → IsAhead kept p rows → IsAhead kept (with_change c rows.votes p) (adopted rows c)
goes_ahead {B} kept rows p c none sum new held a =
    record {
      adds = adds_up kept p.change c (ascends p.change.votes sum) none ∙ ap (λ (r : Rows B). adopted r c) a.adds;
      back = rows_equal (taken_back (with_change c rows.votes p) (adopted rows c)) kept (ap (λ (r : Rows B). r.boot) a.back)
          (ap (λ (r : Rows B). r.promised) a.back)
          (no_snapshot c.snapshot rows.snapshot none ∙ ap (λ (r : Rows B). r.snapshot) a.back)
          (back_more p.replaced (replaced_by c.votes rows.votes) (put_votes c.votes (kept_votes c.snapshot rows.votes))
          ∙ ap (put_all_back p.replaced)
          (ap (λ (vs : List (Vote B)). put_all_back (replaced_by c.votes rows.votes) (put_votes c.votes vs))
          (none_forgotten c.snapshot rows.votes none)
          ∙ votes_back c.votes rows.votes (ascends c.votes new) (ascends rows.votes held))
          ∙ ap (λ (r : Rows B). r.votes) a.back);
    }

pub on_ok : {A E : Type 0} (r : Result A E) (P Q : Type 0) → OnOk r P → (P → Q) → OnOk r Q
on_ok (Ok x) P Q h f = f h
on_ok (Err e) P Q h f = tt

-- a change that adds nothing
pub stays_ahead : {B : Type 0} (kept rows : Rows B) (p : Noted B) (c : Change B) → adopted rows c ≡ rows → IsAhead kept p rows
    → IsAhead kept p (adopted rows c)
stays_ahead {B} kept rows p c same a = subst (λ (r : Rows B). IsAhead kept p r) (sym same) a
