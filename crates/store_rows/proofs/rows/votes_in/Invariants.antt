use Rattle.std.proofs.Common.{◌≡◌, []}
use Rattle.std.specs.Vec.Iter.{into_iter_items}
use Rattle.store_rows.specs.Rows.{votes_after}
use Rattle.store_rows.proofs.rows.votes_in.Given as goal

abbrev pub invariant-loop-row : goal.invariant-loop-row
invariant-loop-row g l =
    votes_after g.C.Coder.reading l.promised l.floor l.votes (into_iter_items l.row-iterator)
    ≡ votes_after g.C.Coder.reading l.promised l.floor [] l.fn.rows.items
