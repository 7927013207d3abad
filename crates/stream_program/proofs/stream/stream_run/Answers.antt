use Rattle.std.proofs.lemmas.Result.{err_from_is_err_and}
use Rattle.stream_program.proofs.Serving.{unheard_ends, turned_away, taken_on}
use Rattle.stream_program.proofs.stream.stream_run.Goals as goal

pub returns-in_err-octets : goal.returns-in_err-octets
returns-in_err-octets g c =
    let p = err_from_is_err_and c.from_residual.result c.from_residual.ensures.1 in
    rw (p.1, p.2) (unheard_ends c.args.realm.now c.in_err-octets.field-0.0 _ _ _ c.in_err-octets.ensures)

pub returns-in_err-limit : goal.returns-in_err-limit
returns-in_err-limit g c =
    let p = err_from_is_err_and c.from_residual-in_err-limit.result c.from_residual-in_err-limit.ensures.1 in
    rw (p.1, p.2)
    (turned_away g.W.Write.contents c.args.realm.now c.in_ok-octets.octets c.args.writer.now c.answer_handshake.new.writer
    (g.R.Read.remaining c.args.reader.now) (g.R.Read.remaining c.read_handshake.new.reader) c.in_err-limit.field-0.0
    c.in_ok-octets.ensures.0 c.in_ok-octets.ensures.1 c.in_err-limit.ensures)

pub returns : goal.returns
returns g c =
    taken_on g.W.Write.contents c.args.realm.now c.in_ok-octets.octets c.args.writer.now c.answer_handshake.new.writer
    (g.R.Read.remaining c.args.reader.now) (g.R.Read.remaining c.read_handshake.new.reader) c.in_ok-limit.limit c.serve.result _ _
    c.in_ok-octets.ensures.0 c.in_ok-octets.ensures.1 c.in_ok-limit.ensures c.serve.ensures
