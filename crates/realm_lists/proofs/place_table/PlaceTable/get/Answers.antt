use Rattle.std.proofs.Common.{◌∙◌}
use Rattle.std.specs.Cmp.{ties}
use Rattle.realm_lists.proofs.Tables.{by_order}
use Rattle.realm_lists.proofs.place_table.PlaceTable.get.Goals as goal

pub returns : goal.returns
returns g c =
    rw (← c.self.view_is)
    (c.copied.ensures ∙ c.get.ensures.value
    ∙ by_order g.K.Ord.cmp g.K.PartialEq.eq (λ key other. ties g.met.K.PartialOrd.laws g.met.K.Ord.matches_partial_cmp key other)
    c.self.inside.places.entries c.args.key)
