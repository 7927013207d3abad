-- The entries stay in order whether a put succeeds or not.
use Rattle.std.proofs.Common.{◌≡◌, Result, Ok, Err, OnOk, OnErr, List}
use Rattle.std.specs.BTreeMap.{insert_entry}
use Rattle.wamp_ids.specs.Pattern.{PatternValue}
use Rattle.wamp_patterns.specs.Table.{AreInOrder, pattern_cmp}
use Rattle.wamp_patterns.proofs.Order.{pattern_total}
use Rattle.wamp_patterns.proofs.Placing.{sorted_put}

pub in_order_either_way : {T E V : Type 0} (r : Result T E) (pattern : PatternValue) (value : V) (old new : List (PatternValue × V))
    → OnOk r (new ≡ insert_entry pattern_cmp old pattern value) → OnErr r (new ≡ old) → AreInOrder old → AreInOrder new
in_order_either_way (Ok x) pattern value old new put kept ordered = rw put (sorted_put pattern_total pattern value old ordered)
in_order_either_way (Err e) pattern value old new put kept ordered = rw kept ordered
