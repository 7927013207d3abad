use Rattle.std.proofs.Common.{None}
use Rattle.std.specs.Cmp.{ties}
use Rattle.realm_lists.proofs.Tables.{updated}
use Rattle.realm_lists.proofs.place_table.PlaceTable.remove.Goals as goal

pub returns : goal.returns
returns g c =
    rw (← c.self.view_is)
    (updated g.K.Ord.cmp g.K.PartialEq.eq (λ key other. ties g.met.K.PartialOrd.laws g.met.K.Ord.matches_partial_cmp key other)
    c.self.inside.places.entries c.swap_remove.new.self.entries c.args.key None c.swap_remove.ensures.updates.0)
