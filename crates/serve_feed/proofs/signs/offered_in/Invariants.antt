-- What was found so far and the packets that are left give what all of them give.
use Rattle.std.proofs.Common.{◌≡◌, drop}
use Rattle.serve_feed.specs.Signs.{offered_since, offered_in}
use Rattle.serve_feed.proofs.signs.offered_in.Given as goal

abbrev pub invariant-loop-hearing : goal.invariant-loop-hearing
invariant-loop-hearing l = offered_since l.last (drop l.hearing-index l.came) ≡ offered_in l.came
