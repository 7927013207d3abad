use Rattle.std.proofs.Common.{option_map, refl}
use Rattle.std.proofs.lemmas.Result.{err_from_is_err_and}
use Rattle.wamp_rawsocket.specs.Splitter.{passed}
use Rattle.stream_program.specs.Stream.{ends, silent}
use Rattle.stream_program.proofs.Putting.{answers_puts, put_nothing, puts_never_waits}
use Rattle.stream_program.proofs.Answering.{message_puts, ping_puts, pong_puts, fault_puts, no_frame_due}
use Rattle.stream_program.proofs.service.Service.answer_next.Goals as goal

pub returns-in_err-frame-clause-answers : goal.returns-in_err-frame-clause-answers
returns-in_err-frame-clause-answers c more =
    let p = err_from_is_err_and c.from_residual.result c.from_residual.ensures.1 in
    rw (p.1, p.2) (fault_puts _ _ (option_map passed c.args.self.now.splitter) c.args.self.now.realm.config _ _ _ _ _ more c.in_err-frame.ensures)

pub returns-in_default-clause-waits : goal.returns-in_default-clause-waits
returns-in_default-clause-waits c e =
    no_frame_due c.args.self.now.splitter _ c.args.self.now.realm.config _ _ _ (rw c.in_default.is at c.in_ok-frame.ensures)

pub returns-in_err-read-in-Message-clause-answers : goal.returns-in_err-read-in-Message-clause-answers
returns-in_err-read-in-Message-clause-answers c more =
    let p = err_from_is_err_and c.from_residual-in_err-read-in-Message.result c.from_residual-in_err-read-in-Message.ensures.1 in
    rw (p.1, p.2) (answers_puts _ _ _ _ _ (put_nothing _ _ _ _ refl))

pub returns-in_err-shared-in-Message-clause-answers : goal.returns-in_err-shared-in-Message-clause-answers
returns-in_err-shared-in-Message-clause-answers c more =
    let p = err_from_is_err_and c.from_residual-in_err-shared-in-Message.result c.from_residual-in_err-shared-in-Message.ensures.1 in
    rw (p.1, p.2) (answers_puts _ _ _ _ _ (put_nothing _ _ _ _ refl))

pub returns-in_ok-shared-in-Message-clause-answers : goal.returns-in_ok-shared-in-Message-clause-answers
returns-in_ok-shared-in-Message-clause-answers c more =
    answers_puts _ _ _ _ _
    (message_puts c.in-Some.frame c.args.self.now.splitter (record c.args.self.now { parser = c.read_by.new.parser; splitter = c.pass.new.self })
    c.answer_message.new.self c.answer_message.result more
    (rw c.pass.ensures (rw c.in-Some.is at c.in_ok-frame.ensures)) c.in-Message.is
    (rw (c.in_ok-shared-in-Message.ensures.ok, c.in_ok-read-in-Message.ensures) at c.answer_message.ensures))

pub returns-in_ok-shared-in-Message-clause-waits : goal.returns-in_ok-shared-in-Message-clause-waits
returns-in_ok-shared-in-Message-clause-waits c e = absurd (puts_never_waits _ _ _ _ _ (c.answer_message.ensures.puts (ends silent)) e)

pub returns-in-Ping-clause-answers : goal.returns-in-Ping-clause-answers
returns-in-Ping-clause-answers c more =
    rw c.put-put.ensures.limit
    (answers_puts _ _ _ _ _
    (ping_puts c.in-Some.frame c.args.self.now.splitter c.pass-in-Ping.new.self c.put-put.result c.args.self.now.realm.config _ _ _ _ _ more
    (rw c.pass-in-Ping.ensures (rw c.in-Some.is at c.in_ok-frame.ensures)) c.in-Ping.is c.put-put.ensures.puts))

pub returns-in-Ping-clause-waits : goal.returns-in-Ping-clause-waits
returns-in-Ping-clause-waits c e = absurd (puts_never_waits _ _ _ _ _ (c.put-put.ensures.puts (ends silent)) e)

pub returns-in-Pong-clause-answers : goal.returns-in-Pong-clause-answers
returns-in-Pong-clause-answers c more =
    pong_puts c.in-Some.frame c.args.self.now.splitter c.pass-in-Pong.new.self c.args.self.now.realm.config _ _ _ _ more
    (rw c.pass-in-Pong.ensures (rw c.in-Some.is at c.in_ok-frame.ensures)) c.in-Pong.is
