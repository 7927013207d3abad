use Rattle.std.proofs.Common.{false, ◌≡◌, ◌⊎◌, ap, sym, subst, ◌∙◌, true, List, rules}
use Rattle.std.specs.Prelude.{Err, IfErr}
use Rattle.std.specs.List.{AllByRecursion}
use Rattle.sqlite.specs.Held.{state}
use Rattle.sqlite.proofs.StateLemmas.{survives_then}
use Rattle.paxos_packets.specs.declared.vote.Vote.{Vote}
use Rattle.paxos_acceptor.specs.Acceptor.{adopted}
use Rattle.acceptor_store.specs.Store.{Stores, Leaves, Agrees, written}
use Rattle.store_rows.specs.Numbers.{numbers_in_rows}
use Rattle.store_rows.specs.Changes.{is_placed}
use Rattle.acceptor_store.proofs.Changing.{places, written_numbers}
use Rattle.acceptor_store.proofs.Calling.{earlier, in_range, adopts, follows, leaves_none, leaves_then}
use Rattle.store_keeper.specs.declared.fault.KeeperFault.TheVariants.{Damaged}
use Rattle.acceptor_store.specs.Answers.{Refuses, are_spelled, has_place}
use Rattle.acceptor_store.proofs.Refusing.{placed, unplaced, unspelled, refuses_for, same_fault}
use Rattle.acceptor_store.proofs.calls.write.Goals as goal

pub returns-clause-ok : goal.returns-clause-ok
returns-clause-ok g c rows holds clean =
    let mid = c.numbers.new.session.conn in
    let before = c.in_ok-before.before in
    let next = c.in-Some.next in
    let change = c.args.change.now in
    let held = c.numbers.ensures.kept rows holds (earlier g.S.Store mid c.commit_over.new.conn c.commit_over.ensures.clean clean) in
    let same : before ≡ numbers_in_rows rows = subst (λ k. Agrees k rows) c.in_ok-before.ensures.told held.1 in
    let p = places before change next (sym c.in-Some.ensures) in
    let placed = subst (AllByRecursion (λ v. is_placed next.promised next.floor v ≡ true)) (sym c.as_slice.ensures.votes) p.placed in
    let adopt = ap (λ (vs : List (Vote g.row.B.Denot)). written next change.snapshot vs rows) c.as_slice.ensures.votes ∙ adopts before next change rows p same in
    let f = follows before next change rows p same in
    let left = c.in_ok-commit_over.ensures.ok clean rows held.0 same f placed in (
      subst (Leaves g.C.Coder.reading (state g.S.Store c.commit_over.new.conn)) adopt left,
      written_numbers rows next change.snapshot c.as_slice.result.now f.floor ∙ ap numbers_in_rows adopt,
    )

pub commit_over-requires-clause-numbers : goal.commit_over-requires-clause-numbers
commit_over-requires-clause-numbers g c =
    (places c.in_ok-before.before c.args.change.now c.in-Some.next (sym c.in-Some.ensures)).numbers (in_range c.in_ok-before.ensures.told c.numbers.new.session.in_range)

pub commit_over-requires-clause-ballots : goal.commit_over-requires-clause-ballots
commit_over-requires-clause-ballots g c =
    rw c.as_slice.ensures.votes (places c.in_ok-before.before c.args.change.now c.in-Some.next (sym c.in-Some.ensures)).ballots

pub invariant_of-session-2 : goal.invariant_of-session-2
invariant_of-session-2 g c = record {
  alone = c.commit_over.ensures.alone;
  in_range = (places c.in_ok-before.before c.args.change.now c.in-Some.next (sym c.in-Some.ensures)).numbers (in_range c.in_ok-before.ensures.told c.numbers.new.session.in_range);
}

pub returns-clause-placed : goal.returns-clause-placed
returns-clause-placed g c clean rows holds =
    let spelling = g.C.Coder.spelling in
    let before = c.in_ok-before.before in
    let change = c.args.change.now in
    let early = earlier g.S.Store c.numbers.new.session.conn c.commit_over.new.conn c.commit_over.ensures.clean clean in
    let same : before ≡ numbers_in_rows rows = subst (λ k. Agrees k rows) c.in_ok-before.ensures.told (c.numbers.ensures.kept rows holds early).1 in
    let all = subst (λ vs. are_spelled spelling vs ≡ true) c.as_slice.ensures.votes c.in_ok-commit_over.ensures.spelled in
    subst (λ n. has_place spelling n change ≡ true) same (placed spelling before change c.in-Some.next (sym c.in-Some.ensures) all)

pub returns-in_err-before-clause-refused : goal.returns-in_err-before-clause-refused
returns-in_err-before-clause-refused g c clean rows holds is_open =
    let P = has_place g.C.Coder.spelling (numbers_in_rows rows) c.args.change.now ≡ false in
    let given : c.from_residual.result ≡ Err c.in_err-before.field-0.0 = search rules in
    subst (λ r. IfErr r (Refuses P)) (sym given)
    (refuses_for c.in_err-before.field-0.0 (λ none. absurd none) (c.in_err-before.ensures.refused clean rows holds is_open))

pub returns-in_default-clause-refused : goal.returns-in_default-clause-refused
returns-in_default-clause-refused g c clean rows holds is_open =
    let spelling = g.C.Coder.spelling in
    let before = c.in_ok-before.before in
    let change = c.args.change.now in
    let same : before ≡ numbers_in_rows rows = subst (λ k. Agrees k rows) c.in_ok-before.ensures.told (c.numbers.ensures.kept rows holds clean).1 in
    subst (λ n. has_place spelling n change ≡ false) same (unplaced spelling before change (sym c.in_default.ensures))

pub returns-in_err-commit_over-clause-refused : goal.returns-in_err-commit_over-clause-refused
returns-in_err-commit_over-clause-refused g c clean rows holds is_open =
    let spelling = g.C.Coder.spelling in
    let before = c.in_ok-before.before in
    let change = c.args.change.now in
    let early = earlier g.S.Store c.numbers.new.session.conn c.commit_over.new.conn c.commit_over.ensures.clean clean in
    let same : before ≡ numbers_in_rows rows = subst (λ k. Agrees k rows) c.in_ok-before.ensures.told (c.numbers.ensures.kept rows holds early).1 in
    let P = has_place spelling (numbers_in_rows rows) change ≡ false in
    let given : c.from_residual-in_err-commit_over.result ≡ Err c.in_err-commit_over.field-0.0 = search rules in
    subst (λ r. IfErr r (Refuses P)) (sym given) (refuses_for c.in_err-commit_over.field-0.0
    (λ no. subst (λ n. has_place spelling n change ≡ false) same
    (unspelled spelling before change c.in-Some.next (sym c.in-Some.ensures) (subst (λ vs. are_spelled spelling vs ≡ false) c.as_slice.ensures.votes no)))
    c.in_err-commit_over.ensures.refused)

pub returns-clause-crash : goal.returns-clause-crash
returns-clause-crash g c rows holds =
    let mid = c.numbers.new.session.conn in
    let new = c.commit_over.new.conn in
    let before = c.in_ok-before.before in
    let next = c.in-Some.next in
    let change = c.args.change.now in
    leaves_then g.S.Store g.C.Coder.reading c.args.session.now.conn mid new (adopted rows change) c.numbers.ensures.survives c.commit_over.ensures.clean (λ clean trees may.
    let held = c.numbers.ensures.kept rows holds (earlier g.S.Store mid new c.commit_over.ensures.clean clean) in
    let same : before ≡ numbers_in_rows rows = subst (λ k. Agrees k rows) c.in_ok-before.ensures.told held.1 in
    let p = places before change next (sym c.in-Some.ensures) in
    let placed = subst (AllByRecursion (λ v. is_placed next.promised next.floor v ≡ true)) (sym c.as_slice.ensures.votes) p.placed in
    let adopt = ap (λ (vs : List (Vote g.row.B.Denot)). written next change.snapshot vs rows) c.as_slice.ensures.votes ∙ adopts before next change rows p same in
    subst (λ made. (state g.S.Store mid).may_leave trees ⊎ Stores g.C.Coder.reading trees made) adopt
    (c.commit_over.ensures.found clean rows held.0 same (follows before next change rows p same) placed trees may))

pub returns-in_err-commit_over-clause-crash : goal.returns-in_err-commit_over-clause-crash
returns-in_err-commit_over-clause-crash g c rows holds =
    let mid = c.numbers.new.session.conn in
    let new = c.commit_over.new.conn in
    let before = c.in_ok-before.before in
    let next = c.in-Some.next in
    let change = c.args.change.now in
    leaves_then g.S.Store g.C.Coder.reading c.args.session.now.conn mid new (adopted rows change) c.numbers.ensures.survives c.commit_over.ensures.clean (λ clean trees may.
    let held = c.numbers.ensures.kept rows holds (earlier g.S.Store mid new c.commit_over.ensures.clean clean) in
    let same : before ≡ numbers_in_rows rows = subst (λ k. Agrees k rows) c.in_ok-before.ensures.told held.1 in
    let p = places before change next (sym c.in-Some.ensures) in
    let placed = subst (AllByRecursion (λ v. is_placed next.promised next.floor v ≡ true)) (sym c.as_slice.ensures.votes) p.placed in
    let adopt = ap (λ (vs : List (Vote g.row.B.Denot)). written next change.snapshot vs rows) c.as_slice.ensures.votes ∙ adopts before next change rows p same in
    subst (λ made. (state g.S.Store mid).may_leave trees ⊎ Stores g.C.Coder.reading trees made) adopt
    (c.commit_over.ensures.found clean rows held.0 same (follows before next change rows p same) placed trees may))

pub returns-in_err-before-clause-crash : goal.returns-in_err-before-clause-crash
returns-in_err-before-clause-crash g c rows holds =
    leaves_none g.S.Store g.C.Coder.reading c.args.session.now.conn c.numbers.new.session.conn (adopted rows c.args.change.now) c.numbers.ensures.survives

pub returns-in_default-clause-crash : goal.returns-in_default-clause-crash
returns-in_default-clause-crash g c rows holds =
    leaves_none g.S.Store g.C.Coder.reading c.args.session.now.conn c.numbers.new.session.conn (adopted rows c.args.change.now) c.numbers.ensures.survives

pub returns-in_err-commit_over-clause-kept : goal.returns-in_err-commit_over-clause-kept
returns-in_err-commit_over-clause-kept g c damaged =
    let given : c.from_residual-in_err-commit_over.result ≡ Err c.in_err-commit_over.field-0.0 = search rules in
    let same : c.in_err-commit_over.field-0.0 ≡ Damaged = same_fault (sym given ∙ damaged) in
    survives_then (state g.S.Store c.args.session.now.conn) (state g.S.Store c.numbers.new.session.conn) (state g.S.Store c.commit_over.new.conn) (λ _. ⊥) (λ _. ⊥) (λ _. ⊥)
    (λ _ trees none. none) (λ _ trees none. none) c.numbers.ensures.survives (c.commit_over.ensures.kept (c.in_err-commit_over.was ∙ ap Err same))
