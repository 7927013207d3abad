use Rattle.std.proofs.Common.{◌≡◌, ◌-◌, [], ◌∷◌, Some, refl, ap, ◌∙◌, rules, arith}
use Rattle.json.specs.Json.{parse_map, items, value}
use Rattle.serde_json.specs.Data.{Items, item, unsigned, number, object, no_members}
use Rattle.serde_json.specs.Read.{of_items, converted}
use Rattle.serde_json.specs.View.{view, members_view}
use Rattle.serde_json.specs.declared.value.Value.{Object}
use Rattle.serde_json.proofs.Views.{view-Object}
use Rattle.wamp_message_types.specs.Codes as code
use Rattle.wamp_messages.specs.Flags.{flagged_in}
use Rattle.wamp_messages.specs.Outermost.{before}
use Rattle.wamp_messages.specs.Publish.{publish_in}
use Rattle.wamp_messages.specs.Reading.{by_code, list_in}
use Rattle.wamp_messages.proofs.Flagged.{flagged_is}
use Rattle.wamp_messages.proofs.Tokens.{behind_front}
use Rattle.wamp_messages.proofs.outermost.publication.Goals as goal

published : (ds : Items) → publish_in ds ≡ list_in (item (number (unsigned code.publish)) ds)
unfolding by_code
published ds = refl

pub returns : goal.returns
returns c n enough =
    let old = c.args.reader.now in
    let q = view c.in_ok-request.request in
    let flags = c.in_ok-flags.flags in
    let told = c.in_ok-flags.ensures.value in
    let ms = told.0 in
    let r = c.element.new.reader in
    let s = c.options.new.reader in
    let first = c.in_ok-request.ensures.value n enough in
    let less = c.in_ok-request.ensures.shorter in
    let lesser = c.in_ok-flags.ensures.shorter in
    let second = told.1 (n - 1) (omega (arith, less, enough)) in
    let vs = c.push-2.new.self.items in
    let rest = converted of_items (items (value 126) (n - 1 - 1) s) in
    let parts = behind_front vs rest _ _ (c.in_ok-rest.ensures.value (n - 1 - 1) (omega (arith, less, lesser, enough))) in
    let ds = parts.0 in
    let whole : converted of_items (items (value 126) n old) ≡ Some (item q (item (object ms) ds), c.more_items.new.reader) =
    first ∙ ap (parse_map (item q)) (second ∙ ap (parse_map (item (object ms))) parts.1) in
    let bare : view (Object c.new.result) ≡ object no_members =
    view-Object c.new.result ∙ ap (λ es. object (members_view es)) c.new.ensures.empty in
    let held : vs ≡ c.in_ok-request.request ∷ Object c.new.result ∷ [] = search rules in
    let front : before vs ds ≡ item q (item (object no_members) ds) =
    ap (λ ws. before ws ds) held ∙ ap (λ d. item q (item d ds)) bare in
    let read = ap (flagged_in flags) (parts.2 ∙ front) ∙ flagged_is flags ms told.2 q ds ∙ published (item q (item (object ms) ds)) in
    (item q (item (object ms) ds), whole, read)
