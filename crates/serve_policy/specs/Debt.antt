-- Whether another member is owed entries that are above this node's floor now, and would not be after a cut (docs/THREADS.md). Nothing that is
-- claimed of a cluster rests on it.
use Rattle.std.specs.Prelude.{ℕ, ◌-◌, ◌&&◌, ◌||◌, nat_lt, nat_le, Bool, false, true, if◌then◌else◌}
use Rattle.serve_policy.specs.Gaining.{lacked_of}

-- whether so many packets wait for the member that some may be lost; how long this node's log was when that was so last, or when the member asked
-- late last: it is owed these entries, or none if this is 0; and the beat from which that is counted
pub record Owing : Type 0 where
  pub is_crowded : Bool
  pub owed : ℕ
  pub since : ℕ

abbrev pub no_debt : Owing
no_debt = record { is_crowded = false; owed = 0; since = 0 }

-- at this beat so many packets wait for the member, while this node's log has this length. What is owed counts from when so many waited first, and
-- from when they did no more
abbrev pub waiting_for : ℕ → ℕ → ℕ → Owing → Owing
waiting_for beat waiting log d =
    if nat_le 2048 waiting then record { is_crowded = true; owed = log; since = if d.is_crowded then d.since else beat }
    else record d { is_crowded = false; since = if d.is_crowded then beat else d.since }

-- whether a member is late that asks for what was learned from a slot on, of a node whose log has this length, and begins with a snapshot up to this
-- floor: it waits for the snapshot, or lacks many entries
abbrev pub is_late : ℕ → ℕ → ℕ → Bool
is_late first log floor = nat_le first floor || nat_lt 1024 (lacked_of first log)

-- at this beat the member asks so. If it is late, it is owed all entries of now; if it has all that it was owed, nothing any more; if it asks for
-- some of what it is owed, it goes on to be owed that, counted anew from this beat
abbrev pub asked_for : ℕ → ℕ → ℕ → ℕ → Owing → Owing
asked_for beat first log floor d =
    if d.is_crowded || is_late first log floor then record d { owed = log; since = beat }
    else if nat_lt d.owed first then record d { owed = 0 }
    else record d { since = beat }

-- whether a cut is put off at this beat for what the member is owed: for 2,560 beats
abbrev pub is_owed : ℕ → Owing → Bool
is_owed beat d = nat_lt 0 d.owed && nat_lt (beat - d.since) 2560
