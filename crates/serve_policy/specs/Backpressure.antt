-- Whether acts are held back so that another node keeps up (docs/THREADS.md). Nothing that is claimed of a cluster rests on it.
use Rattle.std.specs.Prelude.{ℕ, ◌-◌, nat_lt, nat_le, Bool, false, if◌then◌else◌}

-- this many packets wait for a node at a beat, and it kept up at an earlier one last: whether acts are held back, and at which beat it
-- kept up last
abbrev pub backpressure : ℕ → ℕ → ℕ → Bool × ℕ
backpressure beat waiting last = if nat_le waiting 64 then (false, beat) else (nat_lt (beat - last) 40, last)
