use Rattle.acceptor_store.proofs.store.settle.Goals as goal

pub returns-clause-crash : goal.returns-clause-crash
returns-clause-crash g c is_open trees may = g.met.S.Store.settled c.args.conn.now.store trees is_open may

pub returns-clause-stays : goal.returns-clause-stays
returns-clause-stays g c is_open = g.met.S.Store.stays c.args.conn.now.store is_open
