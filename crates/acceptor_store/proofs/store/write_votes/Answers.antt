use Rattle.std.proofs.Common.{false, ◌≡◌, ◌∙◌, ◌+◌, [], ◌∷◌, ⊎_elim, true, drop, sym, ap, subst, arith}
use Rattle.std.specs.Prelude.{Err, IfErr}
use Rattle.std.proofs.lemmas.Result.{err_from_is_err_and}
use Rattle.std.specs.List.{AllByRecursion}
use Rattle.std.proofs.lemmas.List.{drop_more}
use Rattle.sqlite.specs.State.{HasCleanDisk}
use Rattle.sqlite.specs.Held.{state}
use Rattle.sqlite.proofs.StateLemmas.{survives_then}
use Rattle.store_rows.specs.Numbers.{is_ballot}
use Rattle.acceptor_store.proofs.Keeping.{SoFar, so_far_next, so_far_all, drop_past, nil_of}
use Rattle.acceptor_store.specs.Answers.{Refuses, are_spelled}
use Rattle.acceptor_store.proofs.Refusing.{first_spelled, first_unspelled, refuses_for}
use Rattle.acceptor_store.proofs.store.write_votes.Goals as goal

pub loop-vote-preserved : goal.loop-vote-preserved
loop-vote-preserved g c =
    let old = state g.S.Store c.args.tx.now.conn.now in
    let mid = state g.S.Store c.loop-vote.tx.conn.now in
    let new = state g.S.Store c.write_vote.new.tx.conn.now in
    let i = c.loop-vote.vote-index in
    let v = c.vote-item.result in
    let votes = c.args.votes.now in
    let split : drop i votes ≡ v ∷ drop (i + 1) votes = drop_more votes i v (omega arith) ∙ ap (λ w. w ∷ drop (i + 1) votes) (sym c.vote-item.is) in
    let inv = c.loop-vote.invariant in
    let all = subst (AllByRecursion (λ w. is_ballot w.ballot ≡ true)) split inv.2 in (
      c.write_vote.ensures.same_reference ∙ inv.0,
      survives_then old mid new (λ _. ⊥) (λ _. ⊥) (λ _. ⊥) (λ _ db none. none) (λ _ db none. none) inv.1 c.write_vote.ensures.survives,
      all.1,
      (λ e. absurd (omega arith)),
      λ clean inside.
          let early : HasCleanDisk mid = omega (arith, c.write_vote.ensures.survives.clean) in
          let so = subst (λ rest. SoFar g.C.Coder.reading votes rest old mid i) split (inv.4 early inside) in
          so_far_next g.C.Coder.reading votes (drop (i + 1) votes) v old mid new i so (c.in_ok-write_vote.ensures.put clean so.0) (c.in_ok-write_vote.ensures.goes clean so.0)
          (λ e. ap (λ (h : _). (state g.S.Store h).is_open) (inv.3 e)),
      sym (first_spelled g.C.Coder.spelling v (drop (i + 1) votes) c.in_ok-write_vote.ensures.spelled)
          ∙ ap (are_spelled g.C.Coder.spelling) (sym split) ∙ inv.5,
    )

pub returns-in_err-write_vote-clause-survives : goal.returns-in_err-write_vote-clause-survives
returns-in_err-write_vote-clause-survives g c =
    survives_then (state g.S.Store c.args.tx.now.conn.now) (state g.S.Store c.loop-vote.tx.conn.now) (state g.S.Store c.write_vote.new.tx.conn.now) (λ _. ⊥) (λ _. ⊥) (λ _. ⊥)
    (λ _ db none. none) (λ _ db none. none) c.loop-vote.invariant.1 c.write_vote.ensures.survives

pub returns-clause-put : goal.returns-clause-put
returns-clause-put g c clean inside rows has placed =
    let old = state g.S.Store c.args.tx.now.conn.now in
    let now = state g.S.Store c.loop-vote.tx.conn.now in
    let i = c.loop-vote.vote-index in
    let votes = c.args.votes.now in
    let ended : drop i votes ≡ [] = drop_past votes i (omega arith) in
    let so = subst (λ rest. SoFar g.C.Coder.reading votes rest old now i) ended (c.loop-vote.invariant.4 clean inside) in
    so_far_all g.C.Coder.reading votes old now i so rows has placed

pub returns-clause-goes : goal.returns-clause-goes
returns-clause-goes g c clean inside =
    let so = c.loop-vote.invariant.4 clean inside in
    let votes = c.args.votes.now in
    (so.0, λ some. ⊎_elim (λ e. absurd (some (nil_of votes (omega arith)))) (λ o. o) so.1)

pub returns-clause-spelled : goal.returns-clause-spelled
returns-clause-spelled g c =
    let i = c.loop-vote.vote-index in
    let votes = c.args.votes.now in
    let ended : drop i votes ≡ [] = drop_past votes i (omega arith) in
    sym (subst (λ rest. are_spelled g.C.Coder.spelling rest ≡ are_spelled g.C.Coder.spelling votes) ended c.loop-vote.invariant.5)

pub returns-in_err-write_vote-clause-refused : goal.returns-in_err-write_vote-clause-refused
returns-in_err-write_vote-clause-refused g c =
    let i = c.loop-vote.vote-index in
    let v = c.vote-item.result in
    let votes = c.args.votes.now in
    let split : drop i votes ≡ v ∷ drop (i + 1) votes = drop_more votes i v (omega arith) ∙ ap (λ w. w ∷ drop (i + 1) votes) (sym c.vote-item.is) in
    let told = err_from_is_err_and c.from_residual.result c.from_residual.ensures.1 in
    let given : c.from_residual.result ≡ Err c.in_err-write_vote.field-0.0 = told.1 ∙ ap Err told.2 in
    subst (λ r. IfErr r (Refuses (are_spelled g.C.Coder.spelling votes ≡ false))) (sym given) (refuses_for c.in_err-write_vote.field-0.0
    (λ no. sym c.loop-vote.invariant.5 ∙ ap (are_spelled g.C.Coder.spelling) split ∙ first_unspelled g.C.Coder.spelling v (drop (i + 1) votes) no)
    c.in_err-write_vote.ensures.refused)
