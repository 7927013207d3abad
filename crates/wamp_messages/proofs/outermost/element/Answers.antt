use Rattle.std.proofs.Common.{◌≡◌, ◌<◌, length, None, arith}
use Rattle.json.specs.Json.{after_end_array, value}
use Rattle.serde_json.specs.View.{view}
use Rattle.wamp_messages.proofs.Tokens.{item_read}
use Rattle.wamp_messages.proofs.outermost.element.Goals as goal

pub returns-clause-value : goal.returns-clause-value
returns-clause-value c n enough =
    let old = c.args.reader.now in
    let going : (after_end_array old ≡ None) × (c.take_end_array.new.self ≡ old) = grind arith in
    let done = c.in_ok-found.ensures in
    let r = c.value_in.new.reader in
    let less : length r < length old = rw (← going.1) done.shorter in
    item_read (value 126) n old r (view c.in_ok-found.found) (omega (arith, less, enough)) going.0 (rw (← going.1) done.value)
