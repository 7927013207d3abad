use Rattle.std.proofs.Common.{◌≡◌, ◌-◌, ◌∷◌, [], length, Some, sym, ap, ◌∙◌, arith}
use Rattle.json.specs.Token.{Token}
use Rattle.json.specs.Json.{parse_map, items, value}
use Rattle.json.specs.Lex.{tokens}
use Rattle.json.specs.Reads.{token_of}
use Rattle.json.proofs.Grammar.{value-begin_array}
use Rattle.serde_json.specs.Data.{item, array}
use Rattle.serde_json.specs.Read.{of_json, converted}
use Rattle.serde_json.specs.View.{view}
use Rattle.wamp_messages.specs.Reading.{json_read_as}
use Rattle.wamp_messages.proofs.Tokens.{array_of, whole_read}
use Rattle.wamp_messages.proofs.outermost.elements_of.Goals as goal

pub returns : goal.returns
returns c =
    let all = tokens c.args.text.now in
    let s = c.next.new.self in
    let d = view c.in_ok-first.first in
    let began : c.in_ok-reader.reader ≡ all = c.in_ok-reader.ensures.ok in
    let first : c.in_ok-reader.reader ≡ token_of c.in_ok-token.token ∷ s = grind arith in
    let is : all ≡ Token.begin_array ∷ s = sym began ∙ first ∙ ap (λ k. token_of k ∷ s) c.in-BeginArray.is in
    let ended : c.elements_behind.new.reader ≡ [] = grind arith in
    let head = c.in_ok-first.ensures.value (length s) (omega arith) in
    let less = c.in_ok-first.ensures.shorter in
    let rest = c.in_ok-found.ensures (length s - 1) (omega (arith, less)) in
    let ds = rest.0 in
    let whole : converted of_json (value 127 all) ≡ Some (array (item d ds), []) =
    ap (converted of_json) (ap (value 127) is ∙ value-begin_array 127 s (omega arith)) ∙ array_of (items (value 126) (length s) s)
    ∙ ap (parse_map array) (head ∙ ap (parse_map (item d)) rest.1) ∙ ap (λ r. Some (array (item d ds), r)) ended in
    rest.2 ∙ ap json_read_as (sym (whole_read (value 127 all) _ whole))
