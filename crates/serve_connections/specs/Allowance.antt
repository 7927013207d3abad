-- How many octets may wait for a client's stream (docs/OPERATING.md, "Limits").
use Rattle.std.specs.Prelude.{ℕ, ◌==◌, ◌&&◌, ◌||◌, ◌^◌, nat_lt, Bool, if◌then◌else◌}

-- how many of a client's there may be while so many wait for all clients of its node: 16 MiB, and 1 MiB once more than half of the 64 MiB
-- of all are taken
abbrev pub most_waiting : ℕ → ℕ
most_waiting in_all = if nat_lt (2 ^ 25) in_all then 2 ^ 20 else 2 ^ 24

-- whether more of what is said to the client is taken; if nothing waits for it some is in any case, so that each client goes on
abbrev pub may_take : ℕ → ℕ → Bool
may_take waiting in_all = (waiting == 0) || (nat_lt waiting (most_waiting in_all) && nat_lt in_all (2 ^ 26))
