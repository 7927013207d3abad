-- The arguments of a message: nothing, an array, or an array and an object
-- (WAMP specification, "Protocol Messages": Arguments|list, ArgumentsKw|dict).
use Rattle.std.specs.Prelude.{List, [], ◌++◌, IsTrue, is_some, ⊤}
use Rattle.json.specs.Token.{Token}
use Rattle.serde_json.specs.Data.{Data, Items, no_items, item}
use Rattle.serde_json.specs.Find.{as_array, as_object}
use Rattle.wamp_values.specs.Payload.{IsPayload}
use Rattle.wamp_values.specs.Tokens.{data_tokens}
use Rattle.wamp_values.specs.declared.args.Args.{Args}
use Rattle.wamp_values.specs.declared.args.Args.TheVariants.{Nothing, List as Listed, Both}

-- the last items of a message's array
abbrev pub args_items : Args → Items
args_items Nothing = no_items
args_items (Listed list) = item list no_items
args_items (Both list dict) = item list (item dict no_items)

-- the tokens of these items, with no bracket
abbrev pub args_tokens : Args → List Token
args_tokens Nothing = []
args_tokens (Listed list) = data_tokens list
args_tokens (Both list dict) = data_tokens list ++ data_tokens dict

-- a payload that is an array
abbrev pub IsArguments : Data → Type 0
IsArguments d = IsPayload d × IsTrue (is_some (as_array d))

-- a payload that is an object
abbrev pub IsArgumentsKw : Data → Type 0
IsArgumentsKw d = IsPayload d × IsTrue (is_some (as_object d))

abbrev pub IsArgs : Args → Type 0
IsArgs Nothing = ⊤
IsArgs (Listed list) = IsArguments list
IsArgs (Both list dict) = IsArguments list × IsArgumentsKw dict
