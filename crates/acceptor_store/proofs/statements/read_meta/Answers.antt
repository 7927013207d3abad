use Rattle.std.proofs.Common.{[], ⊎_elim}
use Rattle.sqlite.specs.Held.{state}
use Rattle.acceptor_store.specs.Tables.{read_meta_text}
use Rattle.acceptor_store.proofs.Reading.{shows_meta, shows_old_meta, meta_plain, shown_unchanged}
use Rattle.acceptor_store.proofs.statements.read_meta.Goals as goal

pub returns-in-Ok-clause-shown : goal.returns-in-Ok-clause-shown
returns-in-Ok-clause-shown g c clean has =
    ⊎_elim (λ this. shows_meta (state g.S.Store c.args.conn.now) (state g.S.Store c.query_meta.new.conn) c.in-Ok.rows.items this (c.in-Ok.ensures.shown clean))
    (λ old. shows_old_meta (state g.S.Store c.args.conn.now) (state g.S.Store c.query_meta.new.conn) c.in-Ok.rows.items old (c.in-Ok.ensures.shown clean)) has

pub returns-in-Ok-clause-same : goal.returns-in-Ok-clause-same
returns-in-Ok-clause-same g c clean has =
    shown_unchanged read_meta_text [] (state g.S.Store c.args.conn.now) (state g.S.Store c.query_meta.new.conn) c.in-Ok.rows.items
    (meta_plain _ has) (c.in-Ok.ensures.shown clean)
