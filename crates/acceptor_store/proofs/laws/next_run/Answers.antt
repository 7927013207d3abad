use Rattle.sqlite.specs.Files.{file_state, over_files}
use Rattle.paxos_packets.specs.declared.rows.Rows.{Rows}
use Rattle.acceptor_store.specs.Tables.{store_schema}
use Rattle.acceptor_store.specs.Store.{Stores, Finds}
use Rattle.acceptor_store.proofs.Files.{found_left}
use Rattle.acceptor_store.proofs.laws.next_run.Goals as goal

pub returns-clause-held : goal.returns-clause-held
returns-clause-held g c clean numbered rows holds left may found =
    found_left c.args.keeper.now.conn.store store_schema (λ trees. Stores g.C.Coder.reading trees rows) numbered
    (λ trees at. let stores = (holds clean).0 trees at in (stores.sound, stores)) left may (file_state c.args.opened.now) found

pub returns-clause-left : goal.returns-clause-left
returns-clause-left g c clean numbered leaves left may found =
    found_left c.args.keeper.now.conn.store store_schema
    (λ trees. (rows : Rows g.row.B.Denot) × Finds over_files g.C.Coder.reading c.args.keeper.now rows × Stores g.C.Coder.reading trees rows) numbered
    (λ trees at. let it = leaves clean trees at in (it.1.sound, (it.0, (clean, (trees, at, it.1)), it.1))) left may (file_state c.args.opened.now) found
