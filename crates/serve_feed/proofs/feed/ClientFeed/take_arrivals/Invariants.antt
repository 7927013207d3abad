use Rattle.std.proofs.Common.{◌≡◌, ℕ, List}
use Rattle.realm_acts.specs.declared.act.Act.{Act}
use Rattle.serve_feed.specs.Tells.{Tells}
use Rattle.serve_feed.proofs.feed.ClientFeed.take_arrivals.Given as goal

abbrev pub invariant-loop : goal.invariant-loop
invariant-loop l = (l.self.node ≡ l.fn.self.node)
    × ((given : List (ℕ × Act)) → Tells l.fn.self.lanes.sources given → Tells l.self.lanes.sources given)
