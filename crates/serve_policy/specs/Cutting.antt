-- When a node cuts its log, which then begins with a snapshot (docs/THREADS.md). Nothing that is claimed of a cluster rests on it.
use Rattle.std.specs.Prelude.{ℕ, ◌*◌, ◌&&◌, ◌||◌, nat_le, not, Bool}

-- whether a log with this many entries above its floor is long enough to be cut, if so many packets wait for the member for which most do, and
-- entries are owed to a member or to none. One for which many wait may soon ask for entries; one that is owed entries is given those above the
-- present floor, and would have to begin anew over a later one. So a cut is put off for both, but not for good
abbrev pub is_long : ℕ → ℕ → Bool → Bool
is_long entries waiting is_owed =
    nat_le 131072 entries || (not is_owed && (nat_le 65536 entries || (nat_le 4096 entries && nat_le waiting 256)))

-- for how many microseconds a node does not cut after a cut that took this many with its commit: so cuts take at most a fifth of its time. A
-- longer rest lets more entries come than the last cut dropped, and each cut takes longer than the last one
abbrev pub rest_after : ℕ → ℕ
rest_after took = 4 * took
