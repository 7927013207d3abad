use Rattle.std.proofs.Common.{◌≡◌, ◌++◌}
use Rattle.std.specs.Map.{values_of}
use Rattle.realm_lists.specs.PlaceIndex.{places_under}
use Rattle.realm_lists.proofs.place_index.PlaceIndex+tuple2+u64+u64.places_under.Given as goal

-- what is found so far and the places that are left are all
abbrev pub invariant-loop-key : goal.invariant-loop-key
invariant-loop-key l = l.found.items ++ values_of l._key-iterator ≡ places_under l.self l.first
