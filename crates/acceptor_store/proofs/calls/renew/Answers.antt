use Rattle.std.proofs.Common.{◌≡◌, sym, subst}
use Rattle.sqlite.specs.Effect.{Database}
use Rattle.sqlite.specs.Held.{state}
use Rattle.paxos_packets.specs.declared.rows.Rows.{Rows}
use Rattle.store_rows.specs.Numbers.{numbers_in_rows}
use Rattle.acceptor_store.specs.Tables.{old_schema}
use Rattle.acceptor_store.specs.Store.{StoresOld}
use Rattle.acceptor_store.proofs.Keeping.{reads_left}
use Rattle.acceptor_store.proofs.Calling.{is_listed, renew_survives}
use Rattle.acceptor_store.proofs.calls.renew.Goals as goal

pub returns-clause-renewed : goal.returns-clause-renewed
returns-clause-renewed g c is_open rows stores same clean =
    let old = state g.S.Store c.args.conn.now in
    let settled = c.settle.ensures.settled c.requires.alone is_open in
    let schema = is_listed old old_schema c.settle.ensures.live settled is_open stores.sound in
    let has = subst (λ (d : Database). StoresOld g.C.Coder.reading d.trees rows) (sym settled) stores in
    let done = c.in_ok-renew_store.ensures.ok clean schema rows has same in
    reads_left g.C.Coder.reading (state g.S.Store c.renew_store.new.conn) rows (c.settle-2.ensures.crash done.0) done.1.1

pub returns-clause-crash : goal.returns-clause-crash
returns-clause-crash g c =
    renew_survives g.C.Coder.reading (λ (rows : Rows g.row.B.Denot). c.args.numbers.now ≡ numbers_in_rows rows) (state g.S.Store c.args.conn.now) (state g.S.Store c.renew_store.new.conn)
    c.settle.ensures.live (c.settle.ensures.settled c.requires.alone) c.renew_store.ensures.crash

pub returns-in_err-renew_store-clause-crash : goal.returns-in_err-renew_store-clause-crash
returns-in_err-renew_store-clause-crash g c =
    renew_survives g.C.Coder.reading (λ (rows : Rows g.row.B.Denot). c.args.numbers.now ≡ numbers_in_rows rows) (state g.S.Store c.args.conn.now) (state g.S.Store c.renew_store.new.conn)
    c.settle.ensures.live (c.settle.ensures.settled c.requires.alone) c.renew_store.ensures.crash
