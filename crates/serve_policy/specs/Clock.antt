-- How a node's time is counted in beats (docs/THREADS.md). Nothing that is claimed of a cluster rests on it.
use Rattle.std.specs.Prelude.{ℕ, ◌+◌, ◌-◌, ◌*◌, ◌/◌, ◌%◌, nat_lt, Bool, if◌then◌else◌}
use Rattle.serve_policy.specs.declared.clock.Passed.{Passed}
use Rattle.serve_policy.specs.declared.clock.Passed.TheVariants.{Early, Due}

-- how many beats of 2,000 microseconds end within this time; one of which three quarters have passed counts as ended
abbrev pub beats_in : ℕ → ℕ
beats_in micros = (micros / 500 + 1) / 4

-- how many beats are counted together after the beat with this number: one while entries are pending, else all that are left of a tick
abbrev pub wanted : ℕ → Bool → ℕ
wanted beat is_quick = if is_quick then 1 else 5 - beat % 5

-- what is due after this time; no more than five beats are counted, those that ended last
abbrev pub passing : ℕ → ℕ → Bool → Passed
passing micros beat is_quick =
    if nat_lt (beats_in micros) (wanted beat is_quick) then Early (wanted beat is_quick * 2000 - micros)
    else Due (beats_in micros - 5) (if nat_lt (beats_in micros) 5 then beats_in micros else 5)

-- for how many microseconds more a node waits for slow clients: 80 milliseconds in all
abbrev pub waiting_on : ℕ → ℕ
waiting_on waited = 80000 - waited

-- how many microseconds of its waits still count, so many microseconds after the last one: 80 milliseconds are forgotten in each second, so
-- in the long run no more than that goes into waits
abbrev pub forgetting : ℕ → ℕ → ℕ
forgetting passed waited = waited - 2 * (passed / 25)
