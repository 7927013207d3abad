use Rattle.std.proofs.Common.{◌∙◌, sym, subst, true, false}
use Rattle.serve_feed.specs.Tells.{Closes}
use Rattle.serve_feed.proofs.Giving.{closed}
use Rattle.serve_feed.proofs.lanes.Lanes.remove.Goals as goal

pub returns-then-known : goal.returns-then-known
returns-then-known c =
    record {
      removes = λ given without. (
        without.0,
        subst (λ s. Closes true c.args.number s.list.items s.last given) (sym c.drop_lane.ensures.sources)
            (closed true c.args.self.now.sources c.remove-known.new.self c.args.place c.args.number given
            (sym c.if-known.true ∙ c.remove-known.ensures.known) c.remove-known.ensures.list c.remove-known.ensures.last without),
      );
    }

pub returns-else-known : goal.returns-else-known
returns-else-known c =
    record {
      removes = λ given without.
          subst (λ s. Closes false c.args.number s.list.items s.last given) (sym c.drop_lane.ensures.sources)
          (closed false c.args.self.now.sources c.remove-known.new.self c.args.place c.args.number given
          (sym c.if-known.false ∙ c.remove-known.ensures.known) c.remove-known.ensures.list c.remove-known.ensures.last without);
    }
