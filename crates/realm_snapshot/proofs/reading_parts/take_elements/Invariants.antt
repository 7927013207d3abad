use Rattle.std.proofs.Common.{◌≡◌, ℕ, ◌+◌}
use Rattle.realm_snapshot.specs.Reading.{elements_reading}
use Rattle.realm_snapshot.proofs.Taking.{onto}
use Rattle.realm_snapshot.proofs.reading_parts.take_elements.Given as goal

-- what is listed, with the elements left, is all
abbrev pub invariant-loop-turn : goal.invariant-loop-turn
invariant-loop-turn g l =
    (left : ℕ) → left + l._turn ≡ l.count
    → elements_reading g.R.Reads.reading l.count l.fn.cursor ≡ onto l.list.items (elements_reading g.R.Reads.reading left l.cursor)
