use Rattle.std.proofs.Common.{[], sym, subst}
use Rattle.sqlite_schema.specs.declared.schema.Schema.{Schema}
use Rattle.sqlite.specs.Held.{state}
use Rattle.sqlite.specs.Listing.{understood}
use Rattle.sqlite.proofs.Callers.{IsPlain}
use Rattle.acceptor_store.specs.Tables.{read_votes_text}
use Rattle.acceptor_store.proofs.Reading.{shows_votes, read_votes_plain, shown_unchanged}
use Rattle.acceptor_store.proofs.statements.read_votes.Goals as goal

pub returns-in-Ok-clause-shown : goal.returns-in-Ok-clause-shown
returns-in-Ok-clause-shown g c clean has =
    shows_votes (state g.S.Store c.args.conn.now) (state g.S.Store c.query_votes.new.conn) c.in-Ok.rows.items has (c.in-Ok.ensures.shown clean)

pub returns-in-Ok-clause-same : goal.returns-in-Ok-clause-same
returns-in-Ok-clause-same g c clean has =
    shown_unchanged read_votes_text [] (state g.S.Store c.args.conn.now) (state g.S.Store c.query_votes.new.conn) c.in-Ok.rows.items
    (subst (λ (s : Schema). IsPlain (understood s read_votes_text)) (sym has) read_votes_plain) (c.in-Ok.ensures.shown clean)
