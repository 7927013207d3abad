use Rattle.std.proofs.Common.{Some}
use Rattle.std.specs.Cmp.{ties}
use Rattle.realm_lists.proofs.Tables.{updated}
use Rattle.realm_lists.proofs.place_table.PlaceTable.put.Goals as goal

pub returns-clause-ok : goal.returns-clause-ok
returns-clause-ok g c =
    rw (← c.self.view_is)
    (updated g.K.Ord.cmp g.K.PartialEq.eq (λ key other. ties g.met.K.PartialOrd.laws g.met.K.Ord.matches_partial_cmp key other)
    c.self.inside.places.entries c.insert.new.self.entries c.args.key (Some c.args.place) c.in-Ok.ensures.updates.0)
