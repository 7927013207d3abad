use Rattle.std.proofs.Common.{◌≡◌, List}
use Rattle.std.specs.Vec.Iter.{into_iter_items}
use Rattle.serve_feed.specs.declared.lane.Lane.{Lane}
use Rattle.serve_feed.specs.Hears.{Hear}
use Rattle.serve_feed.specs.Says.{said_to}
use Rattle.serve_feed.proofs.feed.ClientFeedRoundFeedActSay.hand.Given as goal

-- once the rest is heard, all is
abbrev pub invariant-loop-say : goal.invariant-loop-say
invariant-loop-say l =
    (l.self.node ≡ l.fn.self.node) × (l.self.boot.number ≡ l.fn.self.boot.number) × (l.self.lanes.sources ≡ l.fn.self.lanes.sources)
    × ((after : List Lane) → Hear (said_to l.fn.self.node l.fn.self.boot.number (into_iter_items l.say-iterator)) l.self.lanes.lanes.items after
    → Hear (said_to l.fn.self.node l.fn.self.boot.number l.fn.says.items) l.fn.self.lanes.lanes.items after)
