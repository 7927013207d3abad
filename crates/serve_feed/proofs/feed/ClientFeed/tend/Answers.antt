use Rattle.std.proofs.Common.{refl, sym, subst}
use Rattle.serve_feed.specs.Tells.{Tells}
use Rattle.serve_feed.proofs.feed.ClientFeed.tend.Goals as goal

pub returns : goal.returns
returns c =
    record {
      node = refl;
      tells = λ given tells. subst (λ s. Tells s given) (sym c.wake_told.ensures.sources) (c.tend.ensures.tells given tells);
    }
