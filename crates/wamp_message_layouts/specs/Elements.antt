-- The elements of a message's array, and what one of them is (WAMP specification, "Protocol Messages": id, string, dict, list).
use Rattle.std.specs.Prelude.{ℕ, zero, suc, Bool, true, false, ◌&&◌, List, Option, Some, None, codes, is_some, unwrap_or, if◌then◌else◌}
use Rattle.std.specs.Vec.Iter.{into_iter_items}
use Rattle.std.specs.declared.alloc.Global.{Global}
use Rattle.std.specs.declared.vec.IntoIter.{IntoIter}
use Rattle.serde_json.specs.Data.{unsigned, negative, Data, null, number, Items, no_items, item}
use Rattle.serde_json.specs.Find.{as_str, as_array, as_object}
use Rattle.serde_json.specs.View.{items_view}
use Rattle.serde_json.specs.declared.value.Value.{Value}
use Rattle.wamp_ids.specs.Id.{is_id}
use Rattle.wamp_values.specs.declared.args.Args.TheVariants.{Nothing, List as Listed, Both}
use Rattle.wamp_values.specs.Payload.{is_fit}
use Rattle.wamp_message_types.specs.declared.request_kind.RequestKind.{RequestKind}
use Rattle.wamp_message_types.specs.RequestKind.{kind_of}
use Rattle.wamp_message_layouts.specs.declared.elements.Given.{Given}
use Rattle.wamp_message_layouts.specs.declared.elements.Given.TheVariants.{TooMany, Misshapen, Inexact, Fit}

-- those that are left to read
abbrev pub elements : IntoIter Value Global → Items
elements rest = items_view (into_iter_items rest)

-- the element in this place
abbrev pub nth : ℕ → Items → Data
nth n no_items = null
nth zero (item d ds) = d
nth (suc n) (item d ds) = nth n ds

-- ---- one element

-- a whole number, as far as one is kept exactly: what may be in the place of an id
abbrev pub is_whole : Data → Bool
is_whole (number (unsigned n)) = true
is_whole (number (negative z)) = true
is_whole d = false

-- the id that the number is
abbrev pub id_in : Data → Option ℕ
id_in (number (unsigned n)) = if is_id n then Some n else None
id_in d = None

abbrev pub id_of : Data → ℕ
id_of d = unwrap_or (id_in d) 0

abbrev pub is_text : Data → Bool
is_text d = is_some (as_str d)

abbrev pub text_of : Data → List ℕ
text_of d = unwrap_or (as_str d) (codes "")

abbrev pub is_dictionary : Data → Bool
is_dictionary d = is_some (as_object d)

abbrev pub is_list : Data → Bool
is_list d = is_some (as_array d)

-- the kind of request that an ERROR names
abbrev pub kind_in : Data → Option RequestKind
kind_in (number (unsigned n)) = kind_of n
kind_in d = None

-- ---- Arguments and ArgumentsKw, at the end of a message: nothing, a list, or a list and a dictionary

abbrev pub args_given : Items → Given
args_given no_items = Fit Nothing
args_given (item list no_items) =
    if is_list list
    then (if is_fit list then Fit (Listed list) else Inexact)
    else Misshapen
args_given (item list (item dictionary no_items)) =
    if is_list list && is_dictionary dictionary
    then (if is_fit list && is_fit dictionary then Fit (Both list dictionary) else Inexact)
    else Misshapen
args_given (item list (item dictionary (item more ds))) = TooMany

-- ---- for private clauses: how many there are

abbrev pub is_one : Items → Bool
is_one (item a no_items) = true
is_one ds = false

abbrev pub is_two : Items → Bool
is_two (item a (item b no_items)) = true
is_two ds = false

abbrev pub is_three : Items → Bool
is_three (item a (item b (item c no_items))) = true
is_three ds = false

abbrev pub has_two : Items → Bool
has_two (item a (item b ds)) = true
has_two ds = false

abbrev pub has_three : Items → Bool
has_three (item a (item b (item c ds))) = true
has_three ds = false

abbrev pub has_four : Items → Bool
has_four (item a (item b (item c (item d ds)))) = true
has_four ds = false
