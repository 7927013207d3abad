use Rattle.std.proofs.Common.{Bool, cond, None, ap, sym, ◌∙◌}
use Rattle.std.specs.Cmp.{ties}
use Rattle.realm_lists.specs.PlaceIndex.{place_at}
use Rattle.realm_lists.proofs.place_index.PlaceIndex.remove.Goals as goal

pub returns : goal.returns
returns g c =
    rw (← c.self.view_is)
    (λ other. c.remove.ensures.updates.0 other
    ∙ ap (λ (b : Bool). cond b None (place_at g.K.Ord.cmp c.self.inside.places.entries other))
    (sym (ties g.met.K.PartialOrd.laws g.met.K.Ord.matches_partial_cmp c.args.key other)))
