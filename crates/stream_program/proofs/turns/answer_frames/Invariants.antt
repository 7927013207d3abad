use Rattle.stream_program.specs.Service.{owed, held_len}
use Rattle.stream_program.specs.Turns.{Writes}
use Rattle.stream_program.proofs.turns.answer_frames.Given as goal

abbrev pub invariant-frames : goal.invariant-frames
invariant-frames g l = Writes (owed l.fn.service) (owed l.service) (g.W.Write.contents l.fn.writer) (g.W.Write.contents l.writer)

abbrev pub decreases-frames : goal.decreases-frames
decreases-frames g l = held_len l.service.splitter
