-- Layouts as data: which kinds of elements a message has after its code, and what is taken of an array of that layout (WAMP specification,
-- "Message Definitions"; the faults and their order are this profile's: docs/PROTOCOL.md, "Reading").
use Rattle.std.specs.Prelude.{ℕ, zero, suc, Bool, true, false, not, ◌&&◌, List, [], ◌∷◌, Option, Some, None, Result, Ok, Err}
use Rattle.std.specs.Prelude.{is_some, unwrap_or, if◌then◌else◌}
use Rattle.serde_json.specs.Data.{Data, Items, no_items, item}
use Rattle.serde_json.specs.View.{view}
use Rattle.serde_json.specs.declared.value.Value.{Value}
use Rattle.wamp_ids.specs.declared.policy.Mode.TheVariants.{KillNoWait}
use Rattle.wamp_values.specs.declared.args.Args.{Args}
use Rattle.wamp_values.specs.declared.args.Args.TheVariants.{Nothing}
use Rattle.wamp_message_layouts.specs.declared.elements.Given.{Given}
use Rattle.wamp_message_layouts.specs.declared.elements.Given.TheVariants.{TooMany, Misshapen, Inexact, Fit}
use Rattle.wamp_message_types.specs.declared.fault.MessageFault.{MessageFault}
use Rattle.wamp_message_types.specs.declared.fault.MessageFault.TheVariants.{Length, Shape, IdRange}
use Rattle.wamp_message_types.specs.declared.request_kind.RequestKind.{RequestKind}
use Rattle.wamp_message_types.specs.declared.request_kind.RequestKind.TheVariants as kind
use Rattle.wamp_message_layouts.specs.declared.layouts.TwoIds.{TwoIds}
use Rattle.wamp_message_layouts.specs.declared.layouts.NamedDetails.{NamedDetails}
use Rattle.wamp_message_layouts.specs.declared.layouts.NumberedDetails.{NumberedDetails}
use Rattle.wamp_message_layouts.specs.declared.layouts.Stopped.{Stopped}
use Rattle.wamp_message_layouts.specs.declared.layouts.Answered.{Answered}
use Rattle.wamp_message_layouts.specs.declared.layouts.Reason.{Reason}
use Rattle.wamp_message_layouts.specs.declared.layouts.UriRequest.{UriRequest}
use Rattle.wamp_message_layouts.specs.declared.layouts.KeyedDetails.{KeyedDetails}
use Rattle.wamp_message_layouts.specs.declared.keys.Key.{Key}
use Rattle.wamp_message_layouts.specs.declared.refusal.Refusal.{Refusal}
use Rattle.wamp_message_types.specs.RequestKind.{is_invocation}
use Rattle.wamp_values.specs.Options.{mode_named}
use Rattle.wamp_message_layouts.specs.Elements.{nth, is_whole, id_in, id_of, is_text, text_of, is_dictionary, kind_in, args_given}
use Rattle.wamp_message_layouts.specs.Keys.{are_typed}

-- what is in one place
pub data Kind : Type 0 where
  id : Kind
  text : Kind
  dictionary : Kind
  -- a dictionary that has a value of its type, or none, at each of these keys
  keyed : (keys : List Key) → Kind
  -- the code of a kind of request
  request : Kind
  -- a dictionary whose `mode` is the name of one
  mode : Kind

-- what follows those
pub data Tail : Type 0 where
  nothing_more : Tail
  -- Arguments and ArgumentsKw; a number that is not kept exactly is allowed there, or counts as another type
  arguments : (may_be_inexact : Bool) → Tail

pub record Layout : Type 0 where
  pub kinds : List Kind
  pub tail : Tail

-- ---- the tests of one place

abbrev pub is_shaped : Kind → Data → Bool
is_shaped id d = is_whole d
is_shaped text d = is_text d
is_shaped dictionary d = is_dictionary d
is_shaped (keyed keys) d = is_dictionary d && are_typed keys d
is_shaped request d = is_some (kind_in d)
is_shaped mode d = is_dictionary d && is_some (mode_named d)

abbrev pub is_in_range : Kind → Data → Bool
is_in_range id d = is_some (id_in d)
is_in_range text d = true
is_in_range dictionary d = true
is_in_range (keyed keys) d = true
is_in_range request d = true
is_in_range mode d = true

-- ---- and of the places in order

abbrev pub has_front : List Kind → Items → Bool
has_front [] ds = true
has_front (k ∷ ks) no_items = false
has_front (k ∷ ks) (item d ds) = has_front ks ds

-- the elements after those places
abbrev pub behind : List Kind → Items → Items
behind [] ds = ds
behind (k ∷ ks) no_items = no_items
behind (k ∷ ks) (item d ds) = behind ks ds

abbrev pub are_shaped : List Kind → Items → Bool
are_shaped [] ds = true
are_shaped (k ∷ ks) no_items = true
are_shaped (k ∷ ks) (item d ds) = is_shaped k d && are_shaped ks ds

abbrev pub are_in_range : List Kind → Items → Bool
are_in_range [] ds = true
are_in_range (k ∷ ks) no_items = true
are_in_range (k ∷ ks) (item d ds) = is_in_range k d && are_in_range ks ds

-- ---- what is taken

-- the arguments at the end; None if there is no place for any, or some number is not kept exactly
abbrev pub args_taken : Bool → Given → Result (Option Args) MessageFault
args_taken may_be_inexact TooMany = Err Length
args_taken may_be_inexact Misshapen = Err Shape
args_taken may_be_inexact Inexact = if may_be_inexact then Ok None else Err Shape
args_taken may_be_inexact (Fit args) = Ok (Some args)

abbrev pub tail_taken : Tail → Items → Result (Option Args) MessageFault
tail_taken nothing_more no_items = Ok None
tail_taken nothing_more (item d ds) = Err Length
tail_taken (arguments may_be_inexact) ds = args_taken may_be_inexact (args_given ds)

-- these parts, if the elements in front have their types and the ids among them their range
abbrev pub checked : {T : Type 0} → List Kind → T → Items → Result T MessageFault
checked kinds parts ds =
    if are_shaped kinds ds then (if are_in_range kinds ds then Ok parts else Err IdRange) else Err Shape

-- the same, with what the tail gives
abbrev pub checked_with : {T : Type 0} → List Kind → (Option Args → T) → Items → Result (Option Args) MessageFault → Result T MessageFault
checked_with kinds parts ds (Err fault) = Err fault
checked_with kinds parts ds (Ok args) = checked kinds (parts args) ds

-- the parts of the elements, if they have the layout, or their fault
abbrev pub taken : {T : Type 0} → Layout → (Items → Option Args → T) → Items → Result T MessageFault
taken layout parts ds =
    if has_front layout.kinds ds then checked_with layout.kinds (parts ds) ds (tail_taken layout.tail (behind layout.kinds ds)) else Err Length

-- ---- the faults of elements that do not have a layout, each by itself

abbrev pub are_few : Given → Bool
are_few TooMany = false
are_few Misshapen = true
are_few Inexact = true
are_few (Fit args) = true

abbrev pub are_args : Bool → Given → Bool
are_args may_be_inexact TooMany = true
are_args may_be_inexact Misshapen = false
are_args may_be_inexact Inexact = may_be_inexact
are_args may_be_inexact (Fit args) = true

abbrev pub has_tail : Tail → Items → Bool
has_tail nothing_more no_items = true
has_tail nothing_more (item d ds) = false
has_tail (arguments may_be_inexact) ds = are_few (args_given ds)

abbrev pub is_tail_shaped : Tail → Items → Bool
is_tail_shaped nothing_more ds = true
is_tail_shaped (arguments may_be_inexact) ds = are_args may_be_inexact (args_given ds)

-- there are as many elements as the layout has places
abbrev pub has_length : Layout → Items → Bool
has_length layout ds = has_front layout.kinds ds && has_tail layout.tail (behind layout.kinds ds)

-- each element has the type of its place
abbrev pub has_shape : Layout → Items → Bool
has_shape layout ds = are_shaped layout.kinds ds && is_tail_shaped layout.tail (behind layout.kinds ds)

-- each id is one
abbrev pub has_range : Layout → Items → Bool
has_range layout ds = are_in_range layout.kinds ds

abbrev pub first_fault : Layout → Items → Option MessageFault
first_fault layout ds =
    if not (has_length layout ds) then Some Length
    else (if not (has_shape layout ds) then Some Shape
    else (if not (has_range layout ds) then Some IdRange
    else None))

-- ---- the layouts, and the parts that are taken

abbrev pub two_ids : Layout
two_ids = record { kinds = id ∷ id ∷ []; tail = nothing_more }

abbrev pub two_ids_of : Items → Option Args → TwoIds
two_ids_of ds given = record { first = id_of (nth 0 ds); second = id_of (nth 1 ds) }

-- Request
abbrev pub one_id : Layout
one_id = record { kinds = id ∷ []; tail = nothing_more }

abbrev pub one_id_of : Items → Option Args → ℕ
one_id_of ds given = id_of (nth 0 ds)

-- Realm, Details
abbrev pub text_dictionary : Layout
text_dictionary = record { kinds = text ∷ dictionary ∷ []; tail = nothing_more }

pub record Named : Type 0 where
  pub name : List ℕ
  pub details : Data

abbrev pub named_of : Items → Option Args → Named
named_of ds given = record { name = text_of (nth 0 ds); details = nth 1 ds }

-- Session or Request, Details
abbrev pub id_dictionary : Layout
id_dictionary = record { kinds = id ∷ dictionary ∷ []; tail = nothing_more }

pub record Numbered : Type 0 where
  pub id : ℕ
  pub details : Data

abbrev pub numbered_of : Items → Option Args → Numbered
numbered_of ds given = record { id = id_of (nth 0 ds); details = nth 1 ds }

-- Request, Options that name a mode
abbrev pub id_mode : Layout
id_mode = record { kinds = id ∷ mode ∷ []; tail = nothing_more }

abbrev pub stopped_of : Items → Option Args → Stopped
stopped_of ds given = record { request = id_of (nth 0 ds); mode = unwrap_or (mode_named (nth 1 ds)) KillNoWait }

-- Request, Options or Details with these keys, and Args
abbrev pub id_keys_args : List Key → Bool → Layout
id_keys_args keys may_be_inexact = record { kinds = id ∷ keyed keys ∷ []; tail = arguments may_be_inexact }

pub record Answer : Type 0 where
  pub request : ℕ
  pub details : Data
  pub args : Option Args

abbrev pub answer_of : Items → Option Args → Answer
answer_of ds given = record { request = id_of (nth 0 ds); details = nth 1 ds; args = given }

-- Details, Reason
abbrev pub dictionary_text : Layout
dictionary_text = record { kinds = dictionary ∷ text ∷ []; tail = nothing_more }

-- the same, and Args
abbrev pub dictionary_text_args : Layout
dictionary_text_args = record { kinds = dictionary ∷ text ∷ []; tail = arguments false }

abbrev pub reason_of : Items → Option Args → Reason
reason_of ds given = record { reason = text_of (nth 1 ds); args = unwrap_or given Nothing }

-- Request, Options, and a URI
abbrev pub id_dictionary_text : Layout
id_dictionary_text = record { kinds = id ∷ dictionary ∷ text ∷ []; tail = nothing_more }

-- the same, and Args
abbrev pub id_dictionary_text_args : Layout
id_dictionary_text_args = record { kinds = id ∷ dictionary ∷ text ∷ []; tail = arguments true }

pub record Asked : Type 0 where
  pub request : ℕ
  pub options : Data
  pub uri : List ℕ
  pub args : Option Args

abbrev pub asked_of : Items → Option Args → Asked
asked_of ds given = record { request = id_of (nth 0 ds); options = nth 1 ds; uri = text_of (nth 2 ds); args = given }

-- two ids, Details with these keys, and Args
abbrev pub two_ids_keys_args : List Key → Layout
two_ids_keys_args keys = record { kinds = id ∷ id ∷ keyed keys ∷ []; tail = arguments false }

pub record Keyed : Type 0 where
  pub first : ℕ
  pub second : ℕ
  pub details : Data
  pub args : Args

abbrev pub keyed_of : Items → Option Args → Keyed
keyed_of ds given = record { first = id_of (nth 0 ds); second = id_of (nth 1 ds); details = nth 2 ds; args = unwrap_or given Nothing }

-- Type, Request, Details, Error, and Args, which may be unfit if the ERROR answers an invocation
abbrev pub answers_invocation : Option RequestKind → Bool
answers_invocation None = false
answers_invocation (Some kind) = is_invocation kind

abbrev pub refusal : Items → Layout
refusal ds = record { kinds = request ∷ id ∷ dictionary ∷ text ∷ []; tail = arguments (answers_invocation (kind_in (nth 0 ds))) }

abbrev pub refusal_of : Items → Option Args → Refusal
refusal_of ds given = record {
  kind = unwrap_or (kind_in (nth 0 ds)) kind.Publish;
  request = id_of (nth 1 ds);
  error = text_of (nth 3 ds);
  args = given;
}

-- ---- for clauses: a Value that was taken, as the data that it holds

abbrev pub seen_named : Result NamedDetails MessageFault → Result Named MessageFault
seen_named (Ok taken) = Ok (record { name = taken.name; details = view taken.details })
seen_named (Err fault) = Err fault

abbrev pub seen_numbered : Result NumberedDetails MessageFault → Result Numbered MessageFault
seen_numbered (Ok taken) = Ok (record { id = taken.id; details = view taken.details })
seen_numbered (Err fault) = Err fault

abbrev pub seen_asked : UriRequest → Asked
seen_asked taken = record { request = taken.request; options = view taken.options; uri = taken.uri; args = taken.args }

abbrev pub seen_request : Result UriRequest MessageFault → Result Asked MessageFault
seen_request (Ok taken) = Ok (seen_asked taken)
seen_request (Err fault) = Err fault

abbrev pub seen_answered : Answered → Answer
seen_answered taken = record { request = taken.request; details = view taken.details; args = taken.args }

abbrev pub seen_answer : Result Answered MessageFault → Result Answer MessageFault
seen_answer (Ok taken) = Ok (seen_answered taken)
seen_answer (Err fault) = Err fault

abbrev pub seen_details : KeyedDetails → Keyed
seen_details taken = record { first = taken.first; second = taken.second; details = view taken.details; args = taken.args }

abbrev pub seen_keyed : Result KeyedDetails MessageFault → Result Keyed MessageFault
seen_keyed (Ok taken) = Ok (seen_details taken)
seen_keyed (Err fault) = Err fault
