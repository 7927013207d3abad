use Rattle.std.proofs.Common.{◌≡◌, true, arith, subst}
use Rattle.std.proofs.lemmas.Result.{on_ok_weaker}
use Rattle.sqlite.specs.Held.{state}
use Rattle.sqlite.specs.State.{HasCleanDisk}
use Rattle.store_rows.specs.declared.rows.Numbers.{Numbers}
use Rattle.store_rows.specs.Numbers.{are_numbers}
use Rattle.acceptor_store.specs.Tables.{store_schema, meta_row}
use Rattle.acceptor_store.specs.Statements.{round_of, node_of, PutsAlone}
use Rattle.acceptor_store.proofs.Founding.{snapshot_free}
use Rattle.acceptor_store.proofs.Writing.{renewed_reads, old_at_most_one}
use Rattle.acceptor_store.proofs.statements.renew_tables.Goals as goal

pub returns-clause-renewed : goal.returns-clause-renewed
returns-clause-renewed g c clean inside old rows has same =
    let from = state g.S.Store c.args.tx.now.conn.now in
    let one = state g.S.Store c.create_snapshot.new.tx.conn.now in
    let two = state g.S.Store c.put_snapshot.new.tx.conn.now in
    let new = state g.S.Store c.put_meta.new.tx.conn.now in
    let middle : HasCleanDisk two = omega (arith, c.put_meta.ensures.survives.clean) in
    let early : HasCleanDisk one = omega (arith, c.put_snapshot.ensures.survives.clean, middle) in
    let made = c.in_ok-create_snapshot.ensures.made early inside old in
    let first = c.in_ok-create_snapshot.ensures.shown early inside in
    let kept = rw c.none.ensures at (c.in_ok-put_snapshot.ensures.put middle first.mode made.schema (snapshot_free from.now one.now made)) in
    let second = c.in_ok-put_snapshot.ensures.shown middle first.mode in
    let ok = subst (λ n. are_numbers n ≡ true) same c.requires in
    on_ok_weaker c.put_meta.result
    (λ put. renewed_reads g.C.Coder.reading from.now one.now two.now new.now rows has ok made kept
    (subst (λ (n : Numbers). PutsAlone store_schema 0 (meta_row n.boot (round_of n.promised) (node_of n.promised)) two.now new.now) same put))
    (c.put_meta.ensures.put clean second.mode kept.edits.schema (old_at_most_one g.C.Coder.reading from.now one.now two.now rows has made kept))
