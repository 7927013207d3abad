use Rattle.std.proofs.lemmas.Result.{err_from_is_err_and}
use Rattle.rtrb.specs.Ring.{sent, known_free}
use Rattle.client_listener.proofs.Putting.{spent, filled}
use Rattle.client_listener.proofs.reading.turn.Goals as goal

pub returns-in_err-put_all-clause-turns : goal.returns-in_err-put_all-clause-turns
returns-in_err-put_all-clause-turns g c most free start before u =
    let p = err_from_is_err_and c.from_residual.result c.from_residual.ensures.1 in
    rw (p.1, p.2) (c.in_err-put_all.ensures.puts most free start before u)

pub returns-then-not-spend-clause-turns : goal.returns-then-not-spend-clause-turns
returns-then-not-spend-clause-turns g c most free start before u =
    let put = c.put_all.new in
    spent most free start before (g.R.Read.remaining put.reader) (sent put.producer) (known_free put.producer) put.turns put.intake
    (c.in_ok-put_all.ensures.puts most free start before u) c.spend.new.turns c.if-not-spend.ensures.0 c.if-not-spend.ensures.1

pub returns-clause-turns : goal.returns-clause-turns
returns-clause-turns g c most free start before u =
    let put = c.put_all.new in
    filled most free start before (g.R.Read.remaining put.reader) (sent put.producer) (known_free put.producer) put.turns put.intake
    (c.in_ok-put_all.ensures.puts most free start before u) c.fill.result (g.R.Read.remaining c.fill.new.reader) c.spend.new.turns
    c.fill.new.self c.if-not-spend.ensures c.fill.ensures
