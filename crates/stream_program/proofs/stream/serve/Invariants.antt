use Rattle.std.proofs.Common.{◌<◌, length}
use Rattle.stream_program.specs.Stream.{opened, config_of}
use Rattle.stream_program.specs.Service.{owed}
use Rattle.stream_program.specs.Turns.{Goes, IsIdle}
use Rattle.stream_program.proofs.stream.serve.Given as goal

abbrev pub invariant-loop-turn : goal.invariant-loop-turn
invariant-loop-turn g l =
    Goes (opened (config_of l.fn.realm) l.fn.limit) (owed l.service) l._turn (g.R.Read.remaining l.fn.reader) (g.R.Read.remaining l.reader)
    (g.W.Write.contents l.fn.writer) (g.W.Write.contents l.writer) × IsIdle l.service × (0 < length l.chunk)
