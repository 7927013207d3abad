-- The outermost array of a message, element by element.
use Rattle.std.specs.Prelude.{◌≡◌, ℕ, ◌-◌, ◌≤◌, List, [], ◌∷◌, length, Some}
use Rattle.json.specs.Token.{Token}
use Rattle.json.specs.Json.{parse_map, items, value}
use Rattle.serde_json.specs.Data.{Data, Items, item}
use Rattle.serde_json.specs.Read.{of_items, converted}
use Rattle.serde_json.specs.View.{view, items_view}
use Rattle.serde_json.specs.declared.value.Value.{Value}
use Rattle.wamp_message_types.specs.declared.read_result.Read.{Read}
use Rattle.wamp_messages.specs.Flags.{flagged_in}
use Rattle.wamp_messages.specs.Reading.{list_in}
use Rattle.wamp_messages.specs.declared.outermost.Elements.{Elements}
use Rattle.wamp_messages.specs.declared.outermost.Elements.TheVariants.{Publication, All}

-- these values in front of the rest
abbrev pub before : List Value → Items → Items
before [] rest = rest
before (v ∷ vs) rest = item (view v) (before vs rest)

-- of the tokens `old` the next element is d, and `new` the rest
abbrev pub IsNext : Data → List Token → List Token → Type 0
IsNext d old new =
    (n : ℕ) → length old ≤ n
    → converted of_items (items (value 126) n old) ≡ parse_map (item d) (converted of_items (items (value 126) (n - 1) new))

-- what the elements are read as
abbrev pub read_from : Elements → Read
read_from (Publication rest flags) = flagged_in flags (items_view rest.items)
read_from (All all) = list_in (items_view all.items)

-- the elements after this code end at `new`, and are read as those that were found
abbrev pub Reads : Elements → Data → List Token → List Token → Type 0
Reads found code old new =
    (n : ℕ) → length old ≤ n
    → (ds : Items) × (converted of_items (items (value 126) n old) ≡ Some (ds, new)) × (read_from found ≡ list_in (item code ds))
