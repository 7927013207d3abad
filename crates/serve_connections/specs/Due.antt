-- How many ticks of 100 ms are left to a connection, for each cause for which they are counted (docs/OPERATING.md, "Limits").
use Rattle.std.specs.Prelude.{ℕ, ◌-◌, ◌==◌, ◌^◌, nat_lt, Bool, Option, None, Some, false, if◌then◌else◌}

-- for the handshake of a connection, or for the end of one whose client was refused or closed; for what a client that is served owes, its
-- first message or the rest of a frame; and until such a client takes something of what waits for it
pub record Left : Type 0 where
  pub stage : Option ℕ
  pub owed : Option ℕ
  pub untaken : Option ℕ

-- ticks are counted for the handshake or the end alone, or for nothing
abbrev pub of_stage : ℕ → Left
of_stage ticks = record { stage = Some ticks; owed = None; untaken = None }

abbrev pub of_nothing : Left
of_nothing = record { stage = None; owed = None; untaken = None }

-- the end that comes earlier
abbrev pub earlier : Option ℕ → Option ℕ → Option ℕ
earlier None others = others
earlier (Some ticks) None = Some ticks
earlier (Some ticks) (Some others) = if nat_lt others ticks then Some others else Some ticks

-- how many are left before the connection ends, for whichever cause
abbrev pub ticks_left : Left → Option ℕ
ticks_left l = earlier l.stage (earlier l.owed l.untaken)

-- whether none is left of those that are counted
abbrev pub is_over : Option ℕ → Bool
is_over None = false
is_over (Some ticks) = ticks == 0

-- a tick passes: it counts once for each cause
abbrev pub less : Option ℕ → Option ℕ
less None = None
less (Some ticks) = Some (ticks - 1)

abbrev pub passing : Left → Left
passing l = record { stage = less l.stage; owed = less l.owed; untaken = less l.untaken }

-- the ticks that are counted, or so many if none are
abbrev pub counting : Option ℕ → ℕ → Option ℕ
counting None first = Some first
counting (Some ticks) first = Some ticks

-- what is left to a client from which all that came was read: for its first message 100 ticks, from the handshake on; while a frame has begun and
-- is not whole 600, from the last octets that came; between two frames none are counted
abbrev pub owed_left : Bool → Bool → Bool → Option ℕ → Option ℕ
owed_left has_spoken is_within came ticks =
    if has_spoken then (if is_within then (if came then Some 600 else counting ticks 600) else None) else counting ticks 100

abbrev pub reading : Bool → Bool → Bool → Left → Left
reading has_spoken is_within came l = record l { owed = owed_left has_spoken is_within came l.owed }

-- nothing is read of the client
abbrev pub pausing : Left → Left
pausing l = record l { owed = None }

-- what is left to a client for which so many octets wait after what could be written was: while these are more than 1 MiB 100 ticks, from
-- when it took some last
abbrev pub untaken_left : ℕ → Bool → Option ℕ → Option ℕ
untaken_left waiting took ticks = if nat_lt (2 ^ 20) waiting then (if took then Some 100 else counting ticks 100) else None

abbrev pub writing : ℕ → Bool → Left → Left
writing waiting took l = record l { untaken = untaken_left waiting took l.untaken }
