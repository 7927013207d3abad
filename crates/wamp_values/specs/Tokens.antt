-- The text of a value, as tokens that `json` prints with no space (RFC 8259; docs/PROTOCOL.md, "Writing"). Keys are in byte order.
use Rattle.std.specs.Prelude.{◌≡◌, List, ◌++◌, Result, OnOk}
use Rattle.json.specs.Token.{Token, number}
use Rattle.json.specs.Written.{Written}
use Rattle.json.specs.Tree.{json_tokens, items_tokens, members_tokens}
use Rattle.serde_json.specs.Data.{Num, Data, Items, Members}
use Rattle.serde_json.specs.Written.{number_text, outline, items_outline, members_outline}

-- `print` of these is `compact_text` of the value
abbrev pub data_tokens : Data → List Token
data_tokens d = json_tokens (outline d)

-- with the closing bracket
abbrev pub list_tokens : Items → List Token
list_tokens ds = items_tokens (items_outline ds)

-- with the closing brace
abbrev pub dict_tokens : Members → List Token
dict_tokens ms = members_tokens (members_outline ms)

abbrev pub number_token : Num → Token
number_token n = number (number_text n)

-- unless there is an error, a writer has these tokens after its own; the text that it began with stays in either case
pub record Appends {E : Type 0} (result : Result (Unit {0}) E) (old new : Written) (more : List Token) : Type 0 where
  pub ok : OnOk result (new.tokens ≡ old.tokens ++ more)
  pub before : new.before ≡ old.before
