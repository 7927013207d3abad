use Rattle.std.proofs.Common.{ℕ, length, take, ap, rules}
use Rattle.std.proofs.lemmas.Result.{err_from_is_err_and}
use Rattle.stream_program.proofs.Turning.{turn_answers, turn_ends, turn_ends_by, owed_fed, read_memory}
use Rattle.stream_program.specs.Service.{owed}
use Rattle.stream_program.proofs.turns.turn.Goals as goal

pub returns-in_err-act_out-in-Ok-eq0 : goal.returns-in_err-act_out-in-Ok-eq0
returns-in_err-act_out-in-Ok-eq0 g c =
    let p = err_from_is_err_and c.from_residual.result c.from_residual.ensures.1 in
    let arm = c.in-Ok-eq0 in
    rw (p.1, p.2)
    (turn_ends_by c.args.service.now c.act_out.new.service c.in_err-act_out-in-Ok-eq0.field-0.0 _ _ _ _ (take arm.field-0 c.read.new.buf)
    c.requires.idle arm.ensures.bytes.0
    (ap (λ (n : ℕ). length (take n c.read.new.buf)) arm.field-0-test) c.in_err-act_out-in-Ok-eq0.ensures)

pub returns-in_ok-act_out-in-Ok-eq0 : goal.returns-in_ok-act_out-in-Ok-eq0
returns-in_ok-act_out-in-Ok-eq0 g c =
    let arm = c.in-Ok-eq0 in
    turn_ends c.args.service.now c.act_out.new.service c.in_ok-act_out-in-Ok-eq0.field-0 _ _ _ _ (take arm.field-0 c.read.new.buf)
    c.requires.idle arm.ensures.bytes.0
    (ap (λ (n : ℕ). length (take n c.read.new.buf)) arm.field-0-test) (arm.ensures.bytes.1 arm.field-0-test (search rules))
    c.in_ok-act_out-in-Ok-eq0.ensures

pub returns-in_ok-feed-in-Ok : goal.returns-in_ok-feed-in-Ok
returns-in_ok-feed-in-Ok g c =
    let arm = c.in-Ok in
    turn_answers c.answer_frames.result c.args.service.now c.feed.new.self c.answer_frames.new.service _ _ _ _
    (take arm.count c.read.new.buf) arm.ensures.bytes.0 (search rules)
    (λ more. rw c.in_ok-feed-in-Ok.ensures.ok (owed_fed c.args.service.now (take arm.count c.read.new.buf) more)) c.answer_frames.ensures

pub returns-in_err-feed-in-Ok : goal.returns-in_err-feed-in-Ok
returns-in_err-feed-in-Ok g c =
    let p = err_from_is_err_and c.from_residual-in_err-feed-in-Ok.result c.from_residual-in_err-feed-in-Ok.ensures.1 in
    let arm = c.in-Ok in
    rw (p.1, p.2, c.in_err-feed-in-Ok.ensures.err) (read_memory (owed c.args.service.now) _ _ _ (take arm.count c.read.new.buf) arm.ensures.bytes.0)
