use Rattle.std.proofs.lemmas.Result.{err_from_is_err_and}
use Rattle.wamp_messages.specs.Writing.{text_of}
use Rattle.wamp_rawsocket.specs.declared.frame.FrameKind.TheVariants as kind
use Rattle.stream_program.proofs.Framing.{frame_refused}
use Rattle.stream_program.proofs.replies.Replies.send.Goals as goal

pub returns-in_err-send-clause-puts : goal.returns-in_err-send-clause-puts
returns-in_err-send-clause-puts c after =
    let p = err_from_is_err_and c.from_residual.result c.from_residual.ensures.1 in
    rw (p.1, p.2, ← c.self.view_is)
    (frame_refused _ kind.Message (text_of c.args.message.now) _ _ c.in_err-send.field-0.0 c.in_err-send.ensures.frames after)
