use Rattle.std.proofs.Common.{◌≡◌, ◌∙◌, List, refl, ap, sym, subst, rules}
use Rattle.std.specs.Prelude.{Err, IfErr}
use Rattle.std.proofs.lemmas.Result.{IfOk-weaker}
use Rattle.sqlite_value.specs.Order.{Row}
use Rattle.sqlite.specs.Effect.{Database}
use Rattle.sqlite.specs.Held.{state}
use Rattle.acceptor_store.specs.Statements.{AreShown}
use Rattle.acceptor_store.proofs.Keeping.{reads_left, read_stores, read_right, leaves_on}
use Rattle.acceptor_store.specs.Answers.{Tells, IsUnfit}
use Rattle.acceptor_store.proofs.Telling.{read_same, tells_rows, tells_conn}
use Rattle.acceptor_store.proofs.Refusing.{conn_whole}
use Rattle.acceptor_store.proofs.store.read_in_tables.Goals as goal

-- the rows that were shown, of which some are lent as slices
shown_on : (old new : Database) (slice metas votes lent snapshots : List Row) → new ≡ old → slice ≡ metas → lent ≡ snapshots
    → AreShown old.trees (record { metas = metas; votes = votes; snapshots = snapshots })
    → AreShown new.trees (record { metas = slice; votes = votes; snapshots = lent })
shown_on old new slice metas votes lent snapshots now same also are =
    subst (λ (d : Database). AreShown d.trees (record { metas = slice; votes = votes; snapshots = lent })) (sym now) (rw (same, also) are)

pub returns-clause-stores : goal.returns-clause-stores
returns-clause-stores g c clean =
    let old = state g.S.Store c.args.conn.now in
    let new = state g.S.Store c.read_tables.new.conn in
    let same = c.in_ok-read.ensures.same clean in
    let schema = ap (λ (d : Database). d.schema) same.0.now_is ∙ c.requires.tables in
    let shown = shown_on old.now new.now _ _ _ _ _ same.0.now_is c.as_slice.ensures.value c.as_slice-2.ensures.value (c.in_ok-read.ensures.shown clean) in
    let settled = c.settle.ensures.settled (c.read_tables.ensures.mode c.requires.alone) same.0.is_open in
    IfOk-weaker c.read_rows.result _ _
    (λ rows h. reads_left g.C.Coder.reading new rows (c.settle.ensures.crash same.0.is_open)
    (read_stores g.C.Coder.reading new _ rows c.settle.ensures.live same.0.is_open settled schema shown h))
    c.read_rows.ensures.rows

pub returns-clause-right : goal.returns-clause-right
returns-clause-right g c clean others left =
    let old = state g.S.Store c.args.conn.now in
    let new = state g.S.Store c.read_tables.new.conn in
    let same = c.in_ok-read.ensures.same clean in
    let shown = shown_on old.now new.now _ _ _ _ _ same.0.now_is c.as_slice.ensures.value c.as_slice-2.ensures.value (c.in_ok-read.ensures.shown clean) in
    let settled = c.settle.ensures.settled (c.read_tables.ensures.mode c.requires.alone) same.0.is_open in
    IfOk-weaker c.read_rows.result _ _
    (λ rows h. read_right g.C.Coder.reading new _ rows others settled (c.settle.ensures.stays same.0.is_open) shown h
    (leaves_on g.C.Coder.reading old new others c.read_tables.ensures.survives clean left))
    c.read_rows.ensures.rows

pub returns-clause-gives : goal.returns-clause-gives
returns-clause-gives g c clean =
    let old = state g.S.Store c.args.conn.now in
    let shown = shown_on old.now old.now _ _ _ _ _ refl c.as_slice.ensures.value c.as_slice-2.ensures.value (c.in_ok-read.ensures.shown clean) in
    IfOk-weaker c.read_rows.result _ _
    (λ rows h. (c.requires.tables, sym (read_same g.C.Coder.reading old.now.trees _ shown) ∙ h))
    c.read_rows.ensures.rows

pub returns-clause-tells : goal.returns-clause-tells
returns-clause-tells g c clean =
    let old = state g.S.Store c.args.conn.now in
    let shown = shown_on old.now old.now _ _ _ _ _ refl c.as_slice.ensures.value c.as_slice-2.ensures.value (c.in_ok-read.ensures.shown clean) in
    tells_rows g.C.Coder.reading old.now _ c.read_rows.result c.requires.tables shown c.read_rows.ensures.fault c.read_rows.ensures.below

pub returns-in_err-read-clause-tells : goal.returns-in_err-read-clause-tells
returns-in_err-read-clause-tells g c clean =
    let db = (state g.S.Store c.args.conn.now).now in
    let given : c.from_residual.result ≡ Err c.in_err-read.field-0.0 = search rules in
    subst (λ r. IfErr r (Tells g.C.Coder.reading db)) (sym given)
    (tells_conn g.C.Coder.reading db c.in_err-read.field-0.0 c.in_err-read.ensures.fault)

pub returns-clause-open : goal.returns-clause-open
returns-clause-open g c clean unfit = (c.in_ok-read.ensures.same clean).0.was_open

pub returns-in_err-read-clause-open : goal.returns-in_err-read-clause-open
returns-in_err-read-clause-open g c clean unfit =
    let given : c.from_residual.result ≡ Err c.in_err-read.field-0.0 = search rules in
    conn_whole c.in_err-read.field-0.0 c.in_err-read.ensures.fault (subst IsUnfit given unfit)
