use Rattle.std.proofs.Common.{ap, ◌∙◌}
use Rattle.std.specs.Map.{values_of}
use Rattle.realm_lists.proofs.Under.{between_is}
use Rattle.realm_lists.proofs.place_index.PlaceIndex+tuple2+u64+u64.places_under.Goals as goal

pub loop-key-init : goal.loop-key-init
loop-key-init c =
    rw (c.new-found.ensures.items, ← c.self.view_is)
    (ap values_of (c.into_iter-key-iterator.ensures.into_iter_gives ∙ c.range-key-items.ensures.between tt ∙ between_is c.args.first c.self.inside.places.entries))
