use Rattle.std.proofs.Common.{sym}
use Rattle.std.proofs.lemmas.Result.{err_from_is_err_and}
use Rattle.rtrb.specs.Ring.{sent, known_free}
use Rattle.client_listener.specs.Reading.{turns_of}
use Rattle.client_listener.proofs.Putting.{begins, none_begun, cut_short, hang_ends, hung, not_spent}
use Rattle.client_listener.proofs.reading.put_transport.Goals as goal

pub returns-in_err-intake-clause-puts : goal.returns-in_err-intake-clause-puts
returns-in_err-intake-clause-puts g c =
    let p = err_from_is_err_and c.from_residual.result c.from_residual.ensures.1 in
    rw (p.1, p.2, c.in_err-intake.ensures.err) (none_begun _ _ _ _)

pub returns-then-is_cut_short-clause-puts : goal.returns-then-is_cut_short-clause-puts
returns-then-is_cut_short-clause-puts g c =
    let most = turns_of c.args.turns.now in
    let free = known_free c.args.producer.now in
    let start = g.R.Read.remaining c.args.reader.now in
    let before = sent c.args.producer.now in
    let put = c.put_stream-outcome in
    let now = g.R.Read.remaining put.new.reader in
    let after = sent put.new.producer in
    let known = known_free put.new.producer in
    let stops = put.ensures.puts most free start before (begins most free start before _ _ c.min.ensures (c.in_ok-intake.ensures.ok before)) in
    cut_short most free start before put.result now after known put.new.turns stops (sym c.if-is_cut_short.ensures)

pub returns-then-is_cut_short-clause-spent : goal.returns-then-is_cut_short-clause-spent
returns-then-is_cut_short-clause-spent g c =
    let most = turns_of c.args.turns.now in
    let free = known_free c.args.producer.now in
    let start = g.R.Read.remaining c.args.reader.now in
    let before = sent c.args.producer.now in
    let put = c.put_stream-outcome in
    let now = g.R.Read.remaining put.new.reader in
    let after = sent put.new.producer in
    let known = known_free put.new.producer in
    let stops = put.ensures.puts most free start before (begins most free start before _ _ c.min.ensures (c.in_ok-intake.ensures.ok before)) in
    stops.2

pub returns-in_err-hang-clause-puts : goal.returns-in_err-hang-clause-puts
returns-in_err-hang-clause-puts g c =
    let p = err_from_is_err_and c.from_residual-in_err-hang.result c.from_residual-in_err-hang.ensures.1 in
    let most = turns_of c.args.turns.now in
    let free = known_free c.args.producer.now in
    let start = g.R.Read.remaining c.args.reader.now in
    let before = sent c.args.producer.now in
    let put = c.put_stream-outcome in
    let now = g.R.Read.remaining put.new.reader in
    let after = sent put.new.producer in
    let known = known_free put.new.producer in
    let stops = put.ensures.puts most free start before (begins most free start before _ _ c.min.ensures (c.in_ok-intake.ensures.ok before)) in
    rw (p.1, p.2)
    (hang_ends most free start before put.result now after known put.new.turns stops _ _ _ _ c.in_err-hang.ensures.hangs
    c.hang.ensures.reads)

pub returns-in_err-hang-clause-spent : goal.returns-in_err-hang-clause-spent
returns-in_err-hang-clause-spent g c e = c.in_err-hang.ensures.hangs.3

pub returns-clause-puts : goal.returns-clause-puts
returns-clause-puts g c =
    let most = turns_of c.args.turns.now in
    let free = known_free c.args.producer.now in
    let start = g.R.Read.remaining c.args.reader.now in
    let before = sent c.args.producer.now in
    let put = c.put_stream-outcome in
    let now = g.R.Read.remaining put.new.reader in
    let after = sent put.new.producer in
    let known = known_free put.new.producer in
    let stops = put.ensures.puts most free start before (begins most free start before _ _ c.min.ensures (c.in_ok-intake.ensures.ok before)) in
    hung most free start before put.result now after known put.new.turns stops (sym c.if-is_cut_short.ensures) _ _ c.hang.ensures.reads
    c.in_ok-hang.ensures.hangs

pub returns-clause-spent : goal.returns-clause-spent
returns-clause-spent g c e =
    absurd (not_spent (turns_of c.args.turns.now) (known_free c.args.producer.now) (g.R.Read.remaining c.args.reader.now)
    (sent c.args.producer.now) c.put_stream-outcome.result (sym c.if-is_cut_short.ensures) e)
