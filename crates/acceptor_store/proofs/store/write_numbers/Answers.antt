use Rattle.std.proofs.lemmas.Result.{on_ok_weaker}
use Rattle.sqlite.specs.Held.{state}
use Rattle.store_rows.specs.Numbers.{numbers_in_rows}
use Rattle.acceptor_store.proofs.Writing.{meta_reads, at_most_one, floor_stays}
use Rattle.acceptor_store.proofs.store.write_numbers.Goals as goal

pub returns-then-puts-clause-put : goal.returns-then-puts-clause-put
returns-then-puts-clause-put g c clean inside rows has follows =
    on_ok_weaker c.put_meta.result
    (λ put. meta_reads g.C.Coder.reading (state g.S.Store c.args.tx.now.conn.now).now (state g.S.Store c.put_meta.new.tx.conn.now).now rows c.args.numbers.now has put c.requires (floor_stays rows c.args.numbers.now follows.floor) follows.up)
    (c.put_meta.ensures.put clean inside has.0 (at_most_one 2 _ (numbers_in_rows rows) has.1.has.meta))
