use Rattle.std.proofs.Common.{sym, subst}
use Rattle.serve_feed.specs.Tells.{TellsWithout}
use Rattle.serve_feed.proofs.lanes.Lanes.refuse.Goals as goal

pub returns : goal.returns
returns c =
    record {
      removes = λ given without.
          c.remove.ensures.removes given
          (subst (λ s. TellsWithout c.args.place c.args.number s given) (sym c.end.ensures.sources) without);
    }
