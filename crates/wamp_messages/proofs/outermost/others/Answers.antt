use Rattle.std.proofs.Common.{◌≡◌, [], ◌∷◌, ap, ◌∙◌, rules}
use Rattle.json.specs.Json.{items, value}
use Rattle.serde_json.specs.Read.{of_items, converted}
use Rattle.wamp_messages.specs.Outermost.{before}
use Rattle.wamp_messages.specs.Reading.{list_in}
use Rattle.wamp_messages.proofs.Tokens.{behind_front}
use Rattle.wamp_messages.proofs.outermost.others.Goals as goal

pub returns : goal.returns
returns c n enough =
    let vs = c.push.new.self.items in
    let held : vs ≡ c.args.first ∷ [] = search rules in
    let parts = behind_front vs (converted of_items (items (value 126) n c.args.reader.now)) _ _ (c.in_ok-all.ensures.value n enough) in
    (parts.0, parts.1, ap list_in (parts.2 ∙ ap (λ ws. before ws parts.0) held))
