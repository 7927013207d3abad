use Rattle.std.proofs.Common.{◌≡◌, [], inr, arith, sym, subst}
use Rattle.sqlite.specs.Effect.{Database}
use Rattle.sqlite.specs.Held.{state}
use Rattle.sqlite.specs.State.{HasCleanDisk}
use Rattle.sqlite.proofs.StateLemmas.{survives_weaker}
use Rattle.paxos_packets.specs.declared.rows.Rows.{Rows}
use Rattle.store_rows.specs.Numbers.{numbers_in_rows}
use Rattle.store_rows.proofs.Within.{numbers_within}
use Rattle.acceptor_store.specs.Tables.{read_meta_text}
use Rattle.acceptor_store.specs.Store.{StoresOld}
use Rattle.acceptor_store.proofs.Reading.{meta_plain, shows_no_commit}
use Rattle.acceptor_store.proofs.Calling.{old_numbers_is, old_numbers_some, renew_then}
use Rattle.acceptor_store.proofs.calls.renew_where_old.Goals as goal

pub renew-requires-clause-numbers : goal.renew-requires-clause-numbers
renew-requires-clause-numbers g c = numbers_within 1 0 c.as_slice.result.now c.in-Some.numbers (sym c.in-Some.ensures)

pub returns-clause-renewed : goal.returns-clause-renewed
returns-clause-renewed g c is_open rows stores clean =
    let old = state g.S.Store c.args.conn.now in
    let mid = state g.S.Store c.read_meta.new.conn in
    let early : HasCleanDisk mid = omega (arith, c.renew.ensures.crash.clean) in
    let kept = (c.in_ok-metas.ensures.same early (inr c.requires.tables)).0 in
    let has = subst (λ (d : Database). StoresOld g.C.Coder.reading d.trees rows) (sym (c.settle.ensures.settled c.requires.alone is_open)) stores in
    let numbers = old_numbers_is g.C.Coder.reading old.now rows c.in_ok-metas.metas.items c.in-Some.numbers has (c.in_ok-metas.ensures.shown early (inr c.requires.tables))
    (rw c.as_slice.ensures.value at (sym c.in-Some.ensures)) in
    c.renew.ensures.renewed kept.is_open rows (subst (λ (d : Database). StoresOld g.C.Coder.reading d.trees rows) (sym kept.committed_is) stores) numbers clean

pub returns-clause-crash : goal.returns-clause-crash
returns-clause-crash g c =
    let old = state g.S.Store c.args.conn.now in
    let mid = state g.S.Store c.read_meta.new.conn in
    renew_then g.C.Coder.reading (λ (rows : Rows g.row.B.Denot). c.in-Some.numbers ≡ numbers_in_rows rows) old mid (state g.S.Store c.renew.new.conn)
    (λ early. c.in_ok-metas.ensures.same early (inr c.requires.tables))
    (λ early is_open rows stores.
    old_numbers_is g.C.Coder.reading old.now rows c.in_ok-metas.metas.items c.in-Some.numbers
    (subst (λ (d : Database). StoresOld g.C.Coder.reading d.trees rows) (sym (c.settle.ensures.settled c.requires.alone is_open)) stores)
    (c.in_ok-metas.ensures.shown early (inr c.requires.tables)) (rw c.as_slice.ensures.value at (sym c.in-Some.ensures)))
    (shows_no_commit read_meta_text [] old mid (λ clean. meta_plain _ (inr c.requires.tables)) c.read_meta.ensures.survives)
    c.renew.ensures.crash

pub returns-in_default-clause-renewed : goal.returns-in_default-clause-renewed
returns-in_default-clause-renewed g c is_open rows stores early =
    let old = state g.S.Store c.args.conn.now in
    absurd (old_numbers_some g.C.Coder.reading old.now rows c.in_ok-metas.metas.items
    (subst (λ (d : Database). StoresOld g.C.Coder.reading d.trees rows) (sym (c.settle.ensures.settled c.requires.alone is_open)) stores)
    (c.in_ok-metas.ensures.shown early (inr c.requires.tables)) (rw c.as_slice.ensures.value at (sym c.in_default.ensures)))

pub returns-in_default-clause-crash : goal.returns-in_default-clause-crash
returns-in_default-clause-crash g c =
    let old = state g.S.Store c.args.conn.now in
    let mid = state g.S.Store c.read_meta.new.conn in
    survives_weaker old mid (λ _. ⊥) _ (λ clean trees none. absurd none)
    (shows_no_commit read_meta_text [] old mid (λ clean. meta_plain _ (inr c.requires.tables)) c.read_meta.ensures.survives)

pub returns-in_err-metas-clause-crash : goal.returns-in_err-metas-clause-crash
returns-in_err-metas-clause-crash g c =
    let old = state g.S.Store c.args.conn.now in
    let mid = state g.S.Store c.read_meta.new.conn in
    survives_weaker old mid (λ _. ⊥) _ (λ clean trees none. absurd none)
    (shows_no_commit read_meta_text [] old mid (λ clean. meta_plain _ (inr c.requires.tables)) c.read_meta.ensures.survives)
