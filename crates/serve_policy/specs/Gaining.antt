-- Whether acts are held back so that a node that lacks many entries gains on the others (docs/THREADS.md). Nothing that is
-- claimed of a cluster rests on it.
use Rattle.std.specs.Prelude.{ℕ, ◌-◌, ◌/◌, ◌%◌, ◌==◌, ◌&&◌, ◌||◌, nat_lt, nat_le, not, Bool, if◌then◌else◌}

-- how long the node's log was; how many entries it lacked when it had gained last, 0 if it lacked few; and at which beat that was
pub record Lack : Type 0 where
  pub log : ℕ
  pub mark : ℕ
  pub since : ℕ

-- whether a node that lacks this many entries now is to be counted from here: it is first seen to lack many, its log begins anew, or it
-- lacks an eighth less
abbrev pub is_marked : ℕ → ℕ → Lack → Bool
is_marked log lacks l = (l.mark == 0) || nat_lt log l.log || nat_le lacks (l.mark - l.mark / 8)

-- a node with a log of this length lacks this many entries
abbrev pub lacking : ℕ → ℕ → ℕ → Lack → Lack
lacking beat log lacks l =
    if nat_le lacks 1024 then record l { log = log; mark = 0 }
    else if is_marked log lacks l then record { log = log; mark = lacks; since = beat }
    else record l { log = log }

-- how many entries a node lacks that asks for what was learned from a slot on, of one whose log has this length
abbrev pub lacked_of : ℕ → ℕ → ℕ
lacked_of first log = log - (first - 1)

-- for how many of them acts are held back, if the log begins with a snapshot up to this floor: for none if the node waits for the snapshot. Once
-- it has taken it, it is counted from there
abbrev pub lacked_from : ℕ → ℕ → ℕ → ℕ
lacked_from first applied floor = if nat_le first floor then 0 else lacked_of first applied

-- at this beat a node asks so
abbrev pub asking : ℕ → ℕ → ℕ → ℕ → Lack → Lack
asking beat first applied floor l = lacking beat (first - 1) (lacked_from first applied floor) l

-- whether acts are held back: it lacks many entries, and has gained an eighth of them less than 512 beats ago; but for one beat of four
abbrev pub is_gaining : ℕ → Lack → Bool
is_gaining beat l = not (beat % 4 == 0) && nat_lt 0 l.mark && nat_lt (beat - l.since) 512
