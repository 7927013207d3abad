use Rattle.std.proofs.Common.{refl, ap}
use Rattle.stream_program.specs.declared.service.Service.{Service}
use Rattle.client_listener.specs.Waiting.{WaitingFrames}
use Rattle.stream_program.proofs.Turning.{steps_written}
use Rattle.stream_program.proofs.turns.answer_frame.Goals as goal

pub returns-2-clause-steps : goal.returns-2-clause-steps
returns-2-clause-steps g c =
    let w = c.in_ok-write_to.ensures in
    let later : Service = record c.answer_next-outcome.new.self { replies = c.write_to.new.self } in
    steps_written c.args.service.now c.answer_next-outcome.new.self later c.answer_next-outcome.result _ _
    c.answer_next-outcome.ensures.answers c.answer_next-outcome.ensures.waits
    (ap (λ (r : WaitingFrames). r.octets) w.0) (λ more. rw w.0 refl) w.1
