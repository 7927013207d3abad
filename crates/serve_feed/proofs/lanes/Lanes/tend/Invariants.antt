use Rattle.std.proofs.Common.{ℕ, List}
use Rattle.realm_acts.specs.declared.act.Act.{Act}
use Rattle.serve_feed.specs.Tells.{Tells}
use Rattle.serve_feed.proofs.lanes.Lanes.tend.Given as goal

abbrev pub invariant-loop : goal.invariant-loop
invariant-loop l = (given : List (ℕ × Act)) → Tells l.fn.self.sources given → Tells l.self.sources given
