use Rattle.std.proofs.Common.{◌≡◌}
use Rattle.serve_feed.proofs.feed.ClientFeed.count_packets.Given as goal

-- counting moves no request
abbrev pub invariant-loop-hearing : goal.invariant-loop-hearing
invariant-loop-hearing l = (l.self.node ≡ l.fn.self.node) × (l.self.lanes.sources ≡ l.fn.self.lanes.sources)
