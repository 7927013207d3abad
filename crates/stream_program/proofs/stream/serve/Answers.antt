use Rattle.std.proofs.Common.{Ok, Err, arith, rules}
use Rattle.std.proofs.lemmas.Result.{err_from_is_err_and}
use Rattle.stream_program.specs.Stream.{opened, config_of}
use Rattle.stream_program.specs.Service.{owed}
use Rattle.stream_program.proofs.Running.{ends_memory, over_ends, ends_then, goes_then, goes_writing}
use Rattle.stream_program.proofs.Serving.{opens_over, opens_closed, opens_writes, opens_idle, turns_spent}
use Rattle.stream_program.proofs.stream.serve.Goals as goal

pub returns-in_err-service : goal.returns-in_err-service
returns-in_err-service g c =
    let p = err_from_is_err_and c.from_residual-in_err-service.result c.from_residual-in_err-service.ensures.1 in
    rw (p.1, p.2, c.in_err-service.ensures.memory) (ends_memory (opened (config_of c.args.realm.now) c.args.limit) _ _)

pub returns-in-Err : goal.returns-in-Err
returns-in-Err g c =
    over_ends (opened (config_of c.args.realm.now) c.args.limit) (Err c.in-Err.fault) (g.R.Read.remaining c.args.reader.now)
    (g.W.Write.contents c.args.writer.now)
    (g.W.Write.contents c.act_out.new.writer)
    (opens_over c.args.realm.now c.args.limit c.in_ok-service.service c.act_out.new.service c.in-Err.fault _ _
    c.in_ok-service.ensures.first c.in-Err.ensures)

pub returns-in-Closed : goal.returns-in-Closed
returns-in-Closed g c =
    over_ends (opened (config_of c.args.realm.now) c.args.limit) (Ok tt) (g.R.Read.remaining c.args.reader.now)
    (g.W.Write.contents c.args.writer.now) (g.W.Write.contents c.act_out.new.writer)
    (opens_closed c.args.realm.now c.args.limit c.in_ok-service.service c.act_out.new.service _ _ c.in_ok-service.ensures.first
    (rw c.in-Closed.is at c.in-Ok.ensures))

pub loop-turn-init : goal.loop-turn-init
loop-turn-init g c =
    let first = c.in_ok-service.ensures.first in (
      goes_writing _ _ _ _ _
          (opens_writes c.args.realm.now c.args.limit c.in_ok-service.service c.act_out.new.service c.in-Ok.progress _ _ first
          c.in_default.not-Closed c.in-Ok.ensures),
      opens_idle c.args.realm.now c.args.limit c.in_ok-service.service c.act_out.new.service c.in-Ok.progress _ _ first c.in-Ok.ensures,
      search rules,
    )

pub turn-requires : goal.turn-requires
turn-requires g c = record { room = c.loop-turn.invariant.2; idle = c.loop-turn.invariant.1 }

pub returns-in-Ok-false : goal.returns-in-Ok-false
returns-in-Ok-false g c =
    ends_then (opened (config_of c.args.realm.now) c.args.limit) (owed c.loop-turn.service) c.loop-turn._turn (Ok tt)
    (g.R.Read.remaining c.args.reader.now) (g.R.Read.remaining c.loop-turn.reader) (g.R.Read.remaining c.turn.new.reader)
    (g.W.Write.contents c.args.writer.now) (g.W.Write.contents c.loop-turn.writer) (g.W.Write.contents c.turn.new.writer)
    c.loop-turn.invariant.0 (rw c.in-Ok-false.field-0-test at c.in-Ok-false.ensures)

pub returns-in-Err-turn : goal.returns-in-Err-turn
returns-in-Err-turn g c =
    ends_then (opened (config_of c.args.realm.now) c.args.limit) (owed c.loop-turn.service) c.loop-turn._turn (Err c.in-Err-turn.fault) _ _ _ _ _
    _ c.loop-turn.invariant.0 c.in-Err-turn.ensures

pub loop-turn-preserved : goal.loop-turn-preserved
loop-turn-preserved g c =
    let went = rw c.in-Ok-true.field-0-test at c.in-Ok-true.ensures in
    (goes_then _ (owed c.loop-turn.service) _ c.loop-turn._turn 1 _ _ _ _ _ _ c.loop-turn.invariant.0 went.0, went.1, search rules)

pub returns : goal.returns
returns g c =
    rw c.from.ensures
    (turns_spent (opened (config_of c.args.realm.now) c.args.limit) c.loop-turn.service c.loop-turn._turn _ _ _ _ c.loop-turn.invariant.0
    c.loop-turn.invariant.1 (omega arith))
