use Rattle.std.proofs.Common.{sym, subst}
use Rattle.serve_feed.specs.Tells.{Tells}
use Rattle.serve_feed.proofs.Giving.{left}
use Rattle.serve_feed.proofs.lanes.Lanes.forget.Goals as goal

pub returns : goal.returns
returns c =
    record {
      forgets = λ given tells.
          subst (λ s. Tells s given) (sym c.drop_lane.ensures.sources)
          (left c.args.self.now.sources c.remove-known.new.self c.args.place given c.remove-known.ensures.list c.remove-known.ensures.last
          tells);
    }
