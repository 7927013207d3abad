use Rattle.std.proofs.Common.{◌<◌, length}
use Rattle.script_program.proofs.Intake.{Reading}
use Rattle.script_program.proofs.reading.read_into.Given as goal

abbrev pub invariant-loop-read : goal.invariant-loop-read
invariant-loop-read g l =
    Reading l._read (g.R.Read.remaining l.fn.reader) (g.R.Read.remaining l.reader) l.fn.text.items l.text.items × (0 < length l.chunk)
