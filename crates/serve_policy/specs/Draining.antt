-- Whether ticks are held back until the packets of earlier ones are sent (docs/THREADS.md). Nothing that is claimed of a cluster
-- rests on it.
use Rattle.std.specs.Prelude.{ℕ, ◌+◌, ◌-◌, ◌*◌, ◌&&◌, ◌||◌, nat_lt, nat_le, Bool, if◌then◌else◌}

-- at which beat the node took packets last: few wait for it at this one, or one was posted to it
abbrev pub took_at : ℕ → ℕ → Bool → ℕ → ℕ
took_at beat waiting is_posted last = if nat_le waiting 64 || is_posted then beat else last

-- this many packets wait for a node at a beat, one of them was posted or none, a commit takes so many beats, and it took packets at an earlier
-- beat last: whether ticks are held back, and at which beat it took packets last
abbrev pub draining : ℕ → ℕ → Bool → ℕ → ℕ → Bool × ℕ
draining beat waiting is_posted commit last =
    (nat_lt 64 waiting && nat_lt (beat - took_at beat waiting is_posted last) (40 + 4 * commit), took_at beat waiting is_posted last)
