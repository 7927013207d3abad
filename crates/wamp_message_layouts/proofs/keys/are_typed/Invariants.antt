use Rattle.std.proofs.Common.{◌≡◌, drop}
use Rattle.serde_json.specs.View.{view}
use Rattle.wamp_message_layouts.specs.Keys.{are_typed}
use Rattle.wamp_message_layouts.proofs.keys.are_typed.Given as goal

abbrev pub invariant-loop-key : goal.invariant-loop-key
invariant-loop-key l = are_typed (drop l.key-index l.keys) (view l.details) ≡ are_typed l.keys (view l.details)
