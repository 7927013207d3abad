-- What is written with the rest's tokens is what was there with the whole's, and the rest has no float either.
use Rattle.std.proofs.Common.{◌≡◌, ◌++◌, drop, false}
use Rattle.serde_json.specs.View.{items_view, members_view}
use Rattle.serde_json.specs.Written.{items_have_float, members_have_float}
use Rattle.wamp_values.specs.Tokens.{list_tokens, dict_tokens}
use Rattle.wamp_values.proofs.tokens.+put.Given as goal

abbrev pub invariant-put_items-loop-item : goal.invariant-put_items-loop-item
invariant-put_items-loop-item l =
    (l.out.before ≡ l.initial.out.before)
    × (items_have_float (items_view (drop l.item-index l.item-items)) ≡ false)
    × (l.out.tokens ++ list_tokens (items_view (drop l.item-index l.item-items))
    ≡ l.initial.out.tokens ++ list_tokens (items_view l.items.items))

abbrev pub invariant-put_members-loop-key : goal.invariant-put_members-loop-key
invariant-put_members-loop-key l =
    (l.out.before ≡ l.initial.out.before)
    × (members_have_float (members_view l.key-iterator) ≡ false)
    × (l.out.tokens ++ dict_tokens (members_view l.key-iterator) ≡ l.initial.out.tokens ++ dict_tokens (members_view l.members.entries))
