-- How many octets of a client's requests wait for its node, and when more is read of the client (docs/OPERATING.md, "Limits").
use Rattle.std.specs.Prelude.{ℕ, ◌==◌, ◌&&◌, ◌||◌, ◌^◌, nat_lt, Bool, if◌then◌else◌}

-- what is counted as waiting, of the octets that were read since the ring was found empty, if this many requests are in the ring
abbrev pub counted : ℕ → ℕ → ℕ
counted octets requests = if requests == 0 then 0 else octets

-- whether more is read: less than 1 MiB of the client waits, and less than 64 MiB of all clients of the node; if nothing of the client waits
-- it is read from in any case, so that each client goes on
abbrev pub may_read : ℕ → ℕ → Bool
may_read octets in_all = (octets == 0) || (nat_lt octets (2 ^ 20) && nat_lt in_all (2 ^ 26))
