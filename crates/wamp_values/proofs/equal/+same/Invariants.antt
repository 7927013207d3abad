-- The rest of the two compares as the whole does.
use Rattle.std.proofs.Common.{◌≡◌, drop}
use Rattle.std.specs.Slice.Iter.{iter_rest}
use Rattle.serde_json.specs.View.{items_view, members_view}
use Rattle.wamp_values.specs.Equal.{same_items, same_members}
use Rattle.wamp_values.proofs.equal.+same.Given as goal

abbrev pub invariant-same_lists-loop-item : goal.invariant-same_lists-loop-item
invariant-same_lists-loop-item l =
    same_items (items_view (drop l.item-index l.item-items)) (items_view (iter_rest l.rest))
    ≡ same_items (items_view l.first.items) (items_view l.second.items)

abbrev pub invariant-same_maps-loop-key : goal.invariant-same_maps-loop-key
invariant-same_maps-loop-key l =
    same_members (members_view l.key-iterator) (members_view l.rest)
    ≡ same_members (members_view l.first.entries) (members_view l.second.entries)
