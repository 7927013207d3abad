use Rattle.std.proofs.Common.{◌≡◌, ◌∷◌, length, Some, ap, ◌∙◌, arith}
use Rattle.json.specs.Token.{Token}
use Rattle.json.specs.Json.{parse_map, after_end_array, members, value}
use Rattle.json.specs.Reads.{token_of}
use Rattle.json.proofs.Grammar.{value-begin_object}
use Rattle.serde_json.specs.Data.{object}
use Rattle.serde_json.specs.Read.{of_json, converted}
use Rattle.wamp_messages.proofs.Tokens.{item_read, object_of}
use Rattle.wamp_messages.proofs.outermost.options.Goals as goal

pub returns-clause-value : goal.returns-clause-value
returns-clause-value c =
    let old = c.args.reader.now in
    let s = c.next.new.self in
    let r = c.flags_in.new.reader in
    let first : old ≡ token_of c.in_ok-token.token ∷ s = grind arith in
    let is : old ≡ Token.begin_object ∷ s = first ∙ ap (λ k. token_of k ∷ s) c.in-BeginObject.is in
    let found = c.in_ok-flags.ensures.value in
    let read : converted of_json (value 126 old) ≡ Some (object found.0, r) =
    ap (converted of_json) (ap (value 126) is ∙ value-begin_object 126 s (omega arith)) ∙ object_of (members (value 125) (length s) s) ∙ ap (parse_map object) found.1 in
    let less = c.in_ok-flags.ensures.shorter in (
      found.0,
      λ n enough. item_read (value 126) n old r (object found.0) (omega (arith, enough, ap length is, less)) (ap after_end_array is) read,
      found.2,
    )
