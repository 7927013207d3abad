use Rattle.serve_feed.specs.Hears.{Hear, nothing}
use Rattle.serve_feed.proofs.lanes.ignore_all.Given as goal

abbrev pub invariant-loop-place : goal.invariant-loop-place
invariant-loop-place l = Hear nothing l.fn.lanes.items l.lanes.items
