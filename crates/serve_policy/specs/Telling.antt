-- Whether another member may still tell a node the entry after its log, so that the node is not behind for good (docs/THREADS.md). Nothing that
-- is claimed of a cluster rests on it.
use Rattle.std.specs.Prelude.{ℕ, ◌==◌, ◌&&◌, ◌||◌, suc, nat_lt, not, Bool, false, Option, if◌then◌else◌}
use Rattle.serve_policy.specs.Behind.{ends_above}

-- how long the node's log was when it heard the member last; whether the member has offered a snapshot that ends above that log; and for how many
-- ticks, at most 4,096, it was not heard
pub record Source : Type 0 where
  pub log : ℕ
  pub has_offered : Bool
  pub quiet : ℕ

-- a member that was never heard
abbrev pub unheard : Source
unheard = record { log = 0; has_offered = false; quiet = 4096 }

-- a packet of it came in a round after which the log has this length; a snapshot that ends there, or another packet
abbrev pub hearing : ℕ → Option ℕ → Source → Source
hearing log floor s =
    record { log = log; has_offered = ends_above floor log || ((log == s.log) && s.has_offered); quiet = 0 }

-- the node ticks
abbrev pub passing : Source → Source
passing s = record s { quiet = if nat_lt s.quiet 4096 then suc s.quiet else s.quiet }

-- whether it may tell the entry after a log of this length: it was heard, and has not shown that it has that entry only in its snapshot
abbrev pub may_tell : ℕ → Source → Bool
may_tell log s = nat_lt s.quiet 4096 && not ((log == s.log) && s.has_offered)
