-- The faults of octets that are no message, each by itself (docs/PROTOCOL.md, "Reading").
use Rattle.std.specs.Prelude.{Bool, true, false, not, List, [], ◌∷◌, ℕ, Option, Some, None, is_some}
use Rattle.serde_json.specs.Data.{unsigned, Data, number, array, Items, no_items, item}
use Rattle.wamp_message_types.specs.declared.fault.MessageFault.{MessageFault}
use Rattle.wamp_message_types.specs.declared.fault.MessageFault.TheVariants.{NotJson, NotArray, Kind, Length, Shape, IdRange}
use Rattle.wamp_message_layouts.specs.Layouts.{Layout, has_length, has_shape, has_range}
use Rattle.wamp_message_types.specs.declared.read_result.Read.{Read}
use Rattle.wamp_message_types.specs.declared.read_result.Read.TheVariants.{Good, Unfit, Bad}
use Rattle.wamp_messages.specs.Layouts.{layout_of}
use Rattle.wamp_messages.specs.Reading.{json_of}

-- in the order of their numbers
abbrev pub faults : List MessageFault
faults = NotJson ∷ (NotArray ∷ (Kind ∷ (Length ∷ (Shape ∷ (IdRange ∷ [])))))

-- the elements of an array; something else has none
abbrev pub elements_in : Option Data → Items
elements_in (Some (array ds)) = ds
elements_in d = no_items

abbrev pub is_array : Option Data → Bool
is_array (Some (array ds)) = true
is_array d = false

-- the layout of the message whose code is first, if one is
abbrev pub layout_in : Items → Option Layout
layout_in (item (number (unsigned n)) ds) = layout_of n ds
layout_in ds = None

abbrev pub behind_code : Items → Items
behind_code no_items = no_items
behind_code (item d ds) = ds

-- if there is a layout, its test fails
abbrev pub fails : (Layout → Items → Bool) → Option Layout → Items → Bool
fails test None ds = false
fails test (Some layout) ds = not (test layout ds)

abbrev pub has_fault_in : MessageFault → Option Data → Bool
has_fault_in NotJson json = not (is_some json)
has_fault_in NotArray json = not (is_array json)
has_fault_in Kind json = not (is_some (layout_in (elements_in json)))
has_fault_in Length json = fails has_length (layout_in (elements_in json)) (behind_code (elements_in json))
has_fault_in Shape json = fails has_shape (layout_in (elements_in json)) (behind_code (elements_in json))
has_fault_in IdRange json = fails has_range (layout_in (elements_in json)) (behind_code (elements_in json))

abbrev pub has_fault : List ℕ → MessageFault → Bool
has_fault octets fault = has_fault_in fault (json_of octets)

-- the fault that is reported
abbrev pub fault_of : Read → Option MessageFault
fault_of (Good message) = None
fault_of (Unfit kind request quiet) = None
fault_of (Bad fault) = Some fault
