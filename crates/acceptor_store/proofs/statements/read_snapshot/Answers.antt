use Rattle.std.proofs.Common.{[], sym, subst}
use Rattle.sqlite_schema.specs.declared.schema.Schema.{Schema}
use Rattle.sqlite.specs.Held.{state}
use Rattle.sqlite.specs.Listing.{understood}
use Rattle.sqlite.proofs.Callers.{IsPlain}
use Rattle.acceptor_store.specs.Tables.{read_snapshot_text}
use Rattle.acceptor_store.proofs.Reading.{shows_snapshot, read_snapshot_plain, shown_unchanged}
use Rattle.acceptor_store.proofs.statements.read_snapshot.Goals as goal

pub returns-in-Ok-clause-shown : goal.returns-in-Ok-clause-shown
returns-in-Ok-clause-shown g c clean has =
    shows_snapshot (state g.S.Store c.args.conn.now) (state g.S.Store c.query_snapshot.new.conn) c.in-Ok.rows.items has (c.in-Ok.ensures.shown clean)

pub returns-in-Ok-clause-same : goal.returns-in-Ok-clause-same
returns-in-Ok-clause-same g c clean has =
    shown_unchanged read_snapshot_text [] (state g.S.Store c.args.conn.now) (state g.S.Store c.query_snapshot.new.conn) c.in-Ok.rows.items
    (subst (λ (s : Schema). IsPlain (understood s read_snapshot_text)) (sym has) read_snapshot_plain) (c.in-Ok.ensures.shown clean)
