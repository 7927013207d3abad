use Rattle.serve_feed.specs.Hears.{Hear, nothing}
use Rattle.serve_feed.proofs.lanes.announce_all.Given as goal

abbrev pub invariant-loop-number : goal.invariant-loop-number
invariant-loop-number l = Hear nothing l.fn.lanes.items l.lanes.items
