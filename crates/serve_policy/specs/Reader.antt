-- Whether a node waits for a client that reads slowly (docs/THREADS.md). Nothing that is claimed of a cluster rests on it.
use Rattle.std.specs.Prelude.{ℕ, ◌&&◌, suc, nat_lt, nat_le, not, Bool, true, false, if◌then◌else◌}

-- how many sayings were put since the room in the ring was judged last, and whether the node has waited for the client in vain
pub record Reads : Type 0 where
  pub put : ℕ
  pub is_ignored : Bool

abbrev pub first_reader : Reads
first_reader = record { put = 0; is_ignored = false }

-- a saying is put: whether the room is to be judged, which it is after each 64
abbrev pub putting : Reads → Bool × Reads
putting r = if nat_lt r.put 63 then (false, record r { put = suc r.put }) else (true, record r { put = 0 })

-- the ring has this much room: whether the node waits for the client, which it does at 7,168 or less unless it ignores the client; at
-- 8,128 or more it no longer ignores it, since all but the last 64 sayings were taken
abbrev pub judging : ℕ → Reads → Bool × Reads
judging room r = (nat_le room 7168 && not r.is_ignored, record r { is_ignored = r.is_ignored && nat_lt room 8128 })

-- the node has waited in vain
abbrev pub ignoring : Reads → Reads
ignoring r = record r { is_ignored = true }
