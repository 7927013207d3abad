use Rattle.sqlite.specs.Held.{state}
use Rattle.acceptor_store.specs.Store.{written, Wrote}
use Rattle.acceptor_store.proofs.Keeping.{leaves_or, left_reads, wrote_left}
use Rattle.acceptor_store.proofs.store.commit_rows.Goals as goal

pub returns-clause-ok : goal.returns-clause-ok
returns-clause-ok g c clean rows left follows placed =
    let old = state g.S.Store c.args.conn.now in
    let new = state g.S.Store c.commit.new.conn in
    let done = c.in_ok-commit.ensures.ok clean in
    wrote_left g.C.Coder.reading old new rows (written c.args.numbers.now c.args.snapshot.now c.args.votes.now rows) c.settle.ensures.live (c.settle.ensures.settled c.requires.alone done.0)
    (c.settle.ensures.stays done.0) done.0 (c.settle-2.ensures.crash done.1) (λ has. done.2 rows has follows placed) left

pub returns-clause-found : goal.returns-clause-found
returns-clause-found g c clean rows left follows placed trees may =
    let old = state g.S.Store c.args.conn.now in
    let new = state g.S.Store c.commit.new.conn in
    leaves_or g.C.Coder.reading old new (Wrote g.C.Coder.reading c.args.puts c.args.numbers.now c.args.snapshot.now c.args.votes.now old.now) (written c.args.numbers.now c.args.snapshot.now c.args.votes.now rows) c.commit.ensures.crash
    (λ is_open db wrote. (wrote rows
    (left_reads g.C.Coder.reading old rows c.settle.ensures.live (c.settle.ensures.settled c.requires.alone is_open) is_open (c.settle.ensures.stays is_open) left) follows placed).1)
    clean trees may

pub returns-in_err-commit-clause-found : goal.returns-in_err-commit-clause-found
returns-in_err-commit-clause-found g c clean rows left follows placed trees may =
    let old = state g.S.Store c.args.conn.now in
    let new = state g.S.Store c.commit.new.conn in
    leaves_or g.C.Coder.reading old new (Wrote g.C.Coder.reading c.args.puts c.args.numbers.now c.args.snapshot.now c.args.votes.now old.now) (written c.args.numbers.now c.args.snapshot.now c.args.votes.now rows) c.commit.ensures.crash
    (λ is_open db wrote. (wrote rows
    (left_reads g.C.Coder.reading old rows c.settle.ensures.live (c.settle.ensures.settled c.requires.alone is_open) is_open (c.settle.ensures.stays is_open) left) follows placed).1)
    clean trees may
