-- Whether a node is behind for good: the others offer it snapshots, and it may take none in its present boot (docs/THREADS.md). Nothing that
-- is claimed of a cluster rests on it.
use Rattle.std.specs.Prelude.{ℕ, ◌==◌, ◌&&◌, ◌||◌, suc, nat_lt, nat_le, not, Bool, false, Option, Some, None, if◌then◌else◌}

-- how long the log was; whether a snapshot that ends above it was offered since the last tick; and after how many ticks, at most 2,048, one was
-- since the log grew
pub record Offers : Type 0 where
  pub log : ℕ
  pub is_offered : Bool
  pub ticks : ℕ

abbrev pub no_offers : Offers
no_offers = record { log = 0; is_offered = false; ticks = 0 }

-- whether a snapshot, if one came that ends there, ends above a log of this length
abbrev pub ends_above : Option ℕ → ℕ → Bool
ends_above None log = false
ends_above (Some floor) log = nat_lt log floor

-- a round, after which the log has this length, and in which a snapshot came that ends there, or none
abbrev pub offering : ℕ → Option ℕ → Offers → Offers
offering log floor o =
    if log == o.log then record o { is_offered = o.is_offered || ends_above floor log }
    else record { log = log; is_offered = ends_above floor log; ticks = 0 }

-- the node ticks
abbrev pub ticking : Offers → Offers
ticking o = record o { is_offered = false; ticks = if o.is_offered && nat_lt o.ticks 2048 then suc o.ticks else o.ticks }

-- whether it is behind for good, if another member may still tell the entry after its log, or none may: that member may be behind itself, so it
-- is not waited for without an end
abbrev pub is_for_good : Bool → Offers → Bool
is_for_good may_be_told o = nat_le 2048 o.ticks || (nat_le 16 o.ticks && not may_be_told)
