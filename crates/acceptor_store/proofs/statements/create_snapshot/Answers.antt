use Rattle.std.proofs.Common.{Ok}
use Rattle.sqlite.specs.Held.{state}
use Rattle.acceptor_store.proofs.Founding.{creates_snapshot}
use Rattle.acceptor_store.proofs.statements.create_snapshot.Goals as goal

pub returns-in-Ok-clause-made : goal.returns-in-Ok-clause-made
returns-in-Ok-clause-made g c clean inside has =
    creates_snapshot (state g.S.Store c.args.tx.now.conn.now) (state g.S.Store c.execute_create_snapshot.new.tx.conn.now) (Ok c.in-Ok.field-0) has (c.in-Ok.ensures.runs clean inside).0
