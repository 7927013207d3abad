-- What was seen so far, with the rest, gives what the whole gives.
use Rattle.std.proofs.Common.{◌≡◌, ◌-◌, suc, drop}
use Rattle.std.specs.Prelude.{◌&&◌, nat_le}
use Rattle.serde_json.specs.Data.{items_depth, members_depth}
use Rattle.serde_json.specs.View.{items_view, members_view}
use Rattle.serde_json.specs.Written.{items_have_float, members_have_float}
use Rattle.wamp_values.specs.Payload.{ItemsArePlain, MembersArePlain}
use Rattle.wamp_values.proofs.fitness.+fitness.Given as goal

abbrev pub invariant-items_fitness-loop-item : goal.invariant-items_fitness-loop-item
invariant-items_fitness-loop-item l =
    let rest = items_view (drop l.item-index l.item-items) in
    let whole = items_view l.items.items in
    (items_have_float rest ≡ items_have_float whole)
    × ((l.within && nat_le (items_depth rest) (l.room - 1)) ≡ nat_le (suc (items_depth whole)) l.room)
    × (ItemsArePlain rest → ItemsArePlain whole)

abbrev pub invariant-members_fitness-loop-key : goal.invariant-members_fitness-loop-key
invariant-members_fitness-loop-key l =
    let rest = members_view l._key-iterator in
    let whole = members_view l.members.entries in
    (members_have_float rest ≡ members_have_float whole)
    × ((l.within && nat_le (members_depth rest) (l.room - 1)) ≡ nat_le (suc (members_depth whole)) l.room)
    × (MembersArePlain rest → MembersArePlain whole)
