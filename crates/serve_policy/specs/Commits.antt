-- How long a node's commits take, as its rounds have shown (docs/THREADS.md). Nothing that is claimed of a cluster rests on it.
use Rattle.std.specs.Prelude.{ℕ, ◌+◌, ◌-◌, ◌*◌, ◌/◌, ◌==◌, nat_lt, min, if◌then◌else◌}

-- a commit took this many microseconds, and as many others were reckoned with before. The time rises to a longer one, but at most doubles,
-- half a millisecond aside: a node that stood still once goes on as before. It falls by an eighth of what it is too long
abbrev pub taking : ℕ → ℕ → ℕ
taking micros known = if nat_lt known micros then min micros (2 * known + 500) else known - (known - micros) / 8

-- this many commits took this long together
abbrev pub noting : ℕ → ℕ → ℕ → ℕ
noting micros commits known = if commits == 0 then known else taking (micros / commits) known

-- how many whole beats of 2,000 microseconds a commit takes, at most 100
abbrev pub beats_of : ℕ → ℕ
beats_of known = min (known / 2000) 100
