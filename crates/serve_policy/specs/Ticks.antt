-- When a node ticks, begins a ballot and suspects another. Time is counted in beats, and those in turns; the rules are this project's
-- (docs/THREADS.md). Nothing that is claimed of a cluster rests on them.
use Rattle.std.specs.Prelude.{ℕ, ◌+◌, ◌-◌, ◌*◌, ◌/◌, ◌^◌, ◌==◌, ◌&&◌, ◌||◌, suc, nat_lt, nat_le, max, min, not, Bool, true, false, Option, Some, None, List}
use Rattle.std.specs.Prelude.{replicate, slice_index_or, slice_set, if◌then◌else◌}
use Rattle.std.specs.List.{find}
use Rattle.paxos_packets.specs.Members.{others}
use Rattle.serve_policy.specs.declared.ticks.Due.{Due}
use Rattle.serve_policy.specs.declared.ticks.Due.TheVariants.{Tick, Start, Suspect}
use Rattle.serve_policy.specs.declared.turn.Sign.{Sign}
use Rattle.serve_policy.specs.declared.turn.Sign.TheVariants.{Nothing, Prepared, AtWork, Refused, Told}
use Rattle.serve_policy.specs.declared.turn.Turn.{Turn}
use Rattle.serve_policy.specs.Signs.{is_at_work, is_told}

pub record Counts : Type 0 where
  -- the node, and the others
  pub me : ℕ
  pub peers : List ℕ
  -- whether a ballot is due at once
  pub is_owed : Bool
  -- turns without a packet since the last beats ended; beats; and at which beat the node ticked last
  pub quiet : ℕ
  pub beats : ℕ
  pub ticked : ℕ
  -- how long the log was, at which beat it grew last, and how many entries were applied since the last tick because another node reported one,
  -- at most 64
  pub applied : ℕ
  pub grown : ℕ
  pub gained : ℕ
  -- at which beat nothing was pending, an entry was applied, a ballot was at work or one was begun last
  pub moved : ℕ
  -- how many ballots of its own it began since an entry was applied, at most 8
  pub tries : ℕ
  -- how many slots are to be taken over, if the ballot that was at work last is one that its owner only prepared
  pub prepared : Option ℕ
  -- whether the ballot that was at work or begun last is the node's own
  pub is_own : Bool
  -- for each number from 0 to 7, whether a ballot of that node was at work in this boot, whether it answered the ballot that this node
  -- began last, and at which beat it was heard last
  pub worked : List Bool
  pub answered : List Bool
  pub heard : List ℕ

-- the number, but at most this much
abbrev pub capped : ℕ → ℕ → ℕ
capped most n = if nat_lt n most then n else most

-- before the first turn of a boot, which is the first of its run or a later one
abbrev pub first_counts : ℕ → ℕ → Bool → Counts
first_counts node members is_first = record {
  me = node;
  peers = others node members;
  is_owed = is_first && (node == 1);
  quiet = 0;
  beats = 0;
  ticked = 0;
  applied = 0;
  grown = 0;
  gained = 0;
  moved = 0;
  tries = 0;
  prepared = None;
  is_own = false;
  worked = replicate 8 false;
  answered = replicate 8 false;
  heard = replicate 8 0;
}

-- the node was heard at the present beat; a number above 7 is that of no node
abbrev pub hearing : ℕ → Counts → Counts
hearing peer c = record c { heard = slice_set c.heard peer c.beats }

-- how many entries were applied since the last tick because another node reported one
abbrev pub gained_in : Turn → Counts → ℕ
gained_in t c = if is_told t.sign then capped 64 (c.gained + (t.applied - c.applied)) else c.gained

-- whether something moved in the turn: nothing is pending, an entry was applied, or a ballot is at work
abbrev pub is_moving : Turn → Counts → Bool
is_moving t c = not t.is_pending || not (t.applied == c.applied) || is_at_work t.sign

-- how far the turn brought the log
abbrev pub moving : Turn → Counts → Counts
moving t c = record c {
  applied = t.applied;
  grown = if t.applied == c.applied then c.grown else c.beats;
  gained = gained_in t c;
  moved = if is_moving t c then c.beats else c.moved;
  tries = if t.applied == c.applied then c.tries else 0;
}

-- whether a ballot of this owner was at work, and whether this node answered the ballot that was begun last

abbrev pub has_worked : ℕ → Counts → Bool
has_worked owner c = nat_lt owner 8 && slice_index_or c.worked owner false

abbrev pub has_answered : ℕ → Counts → Bool
has_answered peer c = nat_lt peer 8 && slice_index_or c.answered peer false

-- a ballot that a node refuses, since one of this owner is promised there, is begun again at once, at most 8 times: if no ballot of that owner
-- was at work, and if the node had not answered this one before, so that what it promised is older
abbrev pub may_begin_again : ℕ → ℕ → Counts → Bool
may_begin_again peer owner c = nat_lt c.tries 8 && not (has_worked owner c) && not (has_answered peer c)

abbrev pub refusing : Option ℕ → ℕ → Counts → Counts
refusing None owner c = c
refusing (Some peer) owner c = record c { is_owed = c.is_owed || may_begin_again peer owner c }

-- a ballot of this owner is at work; it is only prepared if the number of slots is given that are to be taken over
abbrev pub working : ℕ → Option ℕ → Counts → Counts
working owner prepared c = record c {
  prepared = prepared;
  is_own = owner == c.me;
  worked = slice_set c.worked owner true;
}

-- a node answers a ballot of this owner
abbrev pub answering : Option ℕ → ℕ → Counts → Counts
answering None owner c = c
answering (Some peer) owner c = if owner == c.me then record c { answered = slice_set c.answered peer true } else c

-- what the packet showed that came from this node
abbrev pub showing : Option ℕ → Sign → Counts → Counts
showing from Nothing c = c
showing from (Prepared owner slots) c = working owner (Some slots) c
showing from (AtWork owner) c = answering from owner (working owner None c)
showing from (Refused owner) c = refusing from owner c
showing from Told c = c

-- a turn without a packet: the 64th ends the beats that are due
abbrev pub resting : ℕ → Counts → Bool × Counts
resting due c =
    if due == 0 then (false, c)
    else if nat_lt c.quiet 63 then (false, record c { quiet = suc c.quiet })
    else (true, record c { quiet = 0; beats = capped (2 ^ 64 - 1) (c.beats + due) })

-- whose packet a turn treated; whether the beats that are due have ended
abbrev pub treating : Option ℕ → ℕ → Counts → Bool × Counts
treating (Some peer) due c = (false, hearing peer c)
treating None due c = resting due c

abbrev pub counting : Turn → Counts → Bool × Counts
counting t c = treating t.from t.beats (showing t.from t.sign (moving t c))

-- for how many beats a node with pending entries waits in which nothing moves: each node has its share. Where a commit takes many beats, it
-- has 16 commits
abbrev pub share : ℕ → Counts → ℕ
share commit c = max 416 (16 * commit) + 96 * c.me

-- twice as much, this number of times, at most eight
abbrev pub doubled : ℕ → ℕ → ℕ
doubled times wait = 2 ^ min times 8 * wait

-- the wait doubles with each ballot of the node's own that brought no entry, three times. While another prepares a ballot it is a beat
-- longer for each 32 slots that this one takes over, and doubles eight times: in the end it is longer than any takeover
abbrev pub waited : Option ℕ → ℕ → ℕ → ℕ
waited None tries share = doubled (min tries 3) share
waited (Some slots) tries share = doubled tries (share + slots / 32)

abbrev pub patience : ℕ → Counts → ℕ
patience commit c = waited c.prepared c.tries (share commit c)

-- whether no packet came of the node in 20,480 beats; and the first such node
abbrev pub is_silent : Counts → ℕ → Bool
is_silent c peer = nat_lt peer 8 && nat_le 20480 (c.beats - slice_index_or c.heard peer 0)

abbrev pub silent_peer : Counts → Option ℕ
silent_peer c = find (is_silent c) c.peers

-- a ballot is begun
abbrev pub starting : Counts → Counts
starting c = record c {
  is_owed = false;
  moved = c.beats;
  tries = capped 8 (suc c.tries);
  prepared = None;
  is_own = true;
  answered = replicate 8 false;
}

-- a tick is due 5 beats and 4 commits after the last one, or ten times that if the log grows; and at once if all 64 entries of an answer were
-- applied
abbrev pub between_ticks : ℕ → ℕ
between_ticks commit = 5 + 4 * commit

abbrev pub is_time_over : ℕ → Counts → Bool
is_time_over commit c = nat_le (10 * between_ticks commit) (c.beats - c.ticked)
    || (nat_le (between_ticks commit) (c.beats - c.ticked) && nat_le (between_ticks commit) (c.beats - c.grown))

abbrev pub is_tick_due : ℕ → Counts → Bool
is_tick_due commit c = nat_le 64 c.gained || is_time_over commit c

-- ticks are held back for at most 512 beats and 40 commits after the last one: then one is due in any case, and what was lost is sent
-- again though another node takes packets slowly
abbrev pub is_overdue : ℕ → Counts → Bool
is_overdue commit c = nat_le (512 + 40 * commit) (c.beats - c.ticked)

-- a node that got all 64 entries of an answer asks for more at once, whatever waits for others, unless it leads: the tick of another node
-- sends little besides
abbrev pub asks_on : Counts → Bool
asks_on c = nat_le 64 c.gained && not c.is_own

abbrev pub ticking : Counts → Counts
ticking c = record c { ticked = c.beats; gained = 0 }

-- a silent node is suspected, and its beats begin anew
abbrev pub suspecting : Option ℕ → Counts → Option Due × Counts
suspecting (Some peer) c = (Some (Suspect peer), hearing peer c)
suspecting None c = (None, c)

-- what is due next, and what is counted then: a ballot that is due at once; a tick, if the node may tick, asks on or is overdue; a ballot,
-- if the node's patience has ended; a suspicion. A commit takes this many beats
abbrev pub next_due : Bool → ℕ → Counts → Option Due × Counts
next_due may_tick commit c =
    if c.is_owed then (Some Start, starting c)
    else if (may_tick && is_tick_due commit c) || asks_on c || is_overdue commit c then (Some Tick, ticking c)
    else if nat_le (patience commit c) (c.beats - c.moved) then (Some Start, starting c)
    else suspecting (silent_peer c) c
