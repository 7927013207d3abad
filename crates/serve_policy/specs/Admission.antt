-- How many acts of its clients a node gives before a round (docs/THREADS.md). Nothing that is claimed of a cluster rests on it.
use Rattle.std.specs.Prelude.{ℕ, ◌-◌, ◌==◌, Bool, min, if◌then◌else◌}

-- how many acts a node may give before its next round, if it has given none since the last one: it leads or not, and this many entries of it are
-- pending. A leader has at most 1,000 entries pending, so that some of the room for 1,024 is always left, and takes at most as many acts as one
-- Forward of another node has. Another node gives acts if none is pending, all at once: it forwards each of them to the leader until that one is
-- applied
abbrev pub acts_before_round : Bool → ℕ → ℕ
acts_before_round leads pending =
    if leads then min 64 (1000 - pending) else (if pending == 0 then 64 else 0)

-- the number of clients that a node looks at before a round in which it may give no act, by the beats that a commit takes: it answers PINGs and
-- forgets clients that have gone. Where a commit takes long so does such a round, and clients come all the time
abbrev pub looks_aside : ℕ → ℕ
looks_aside commit = if commit == 0 then 8 else 64
