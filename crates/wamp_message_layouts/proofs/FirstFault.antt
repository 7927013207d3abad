-- What is taken of elements is their parts, or the first of their faults.
use Rattle.std.proofs.Common.{◌≡◌, ◌∙◌, Bool, true, false, List, Option, Some, None, refl}
use Rattle.std.specs.Prelude.{not, ◌&&◌, Result, Ok, Err, if◌then◌else◌}
use Rattle.serde_json.specs.Data.{Items, no_items, item}
use Rattle.wamp_values.specs.declared.args.Args.{Args}
use Rattle.wamp_message_layouts.specs.declared.elements.Given.{Given}
use Rattle.wamp_message_layouts.specs.declared.elements.Given.TheVariants.{TooMany, Misshapen, Inexact, Fit}
use Rattle.wamp_message_types.specs.declared.fault.MessageFault.{MessageFault}
use Rattle.wamp_message_types.specs.declared.fault.MessageFault.TheVariants.{Length, Shape, IdRange}
use Rattle.wamp_message_layouts.specs.Elements.{args_given}
use Rattle.wamp_message_layouts.specs.Layouts.{Kind, Tail, nothing_more, arguments, Layout, has_front, behind, are_shaped, are_in_range, args_taken}
use Rattle.wamp_message_layouts.specs.Layouts.{tail_taken, are_few, are_args, checked, checked_with, taken, first_fault}

-- the fault that was returned
abbrev pub fault_in : {T : Type 0} → Result T MessageFault → Option MessageFault
fault_in (Ok x) = None
fault_in (Err fault) = Some fault

abbrev judged : Bool → Bool → Option MessageFault
judged shaped ranged = if not shaped then Some Shape else (if not ranged then Some IdRange else None)

abbrev behind_tail : Result (Option Args) MessageFault → Option MessageFault → Option MessageFault
behind_tail (Err fault) more = Some fault
behind_tail (Ok args) more = more

-- the first fault, by the tests in its definition
abbrev first : Bool → Bool → Bool → Bool → Bool → Option MessageFault
first front few shaped args ranged =
    if not (front && few) then Some Length
    else (if not (shaped && args) then Some Shape
    else (if not ranged then Some IdRange
    else None))

judged_first : (shaped ranged : Bool) → judged shaped ranged ≡ first true true shaped true ranged
judged_first true ranged = refl
judged_first false ranged = refl

shape_first : (shaped ranged : Bool) → Some Shape ≡ first true true shaped false ranged
shape_first true ranged = refl
shape_first false ranged = refl

args_first : (may shaped ranged : Bool) (given : Given)
    → behind_tail (args_taken may given) (judged shaped ranged) ≡ first true (are_few given) shaped (are_args may given) ranged
args_first may shaped ranged TooMany = refl
args_first may shaped ranged Misshapen = shape_first shaped ranged
args_first true shaped ranged Inexact = judged_first shaped ranged
args_first false shaped ranged Inexact = shape_first shaped ranged
args_first may shaped ranged (Fit args) = judged_first shaped ranged

checked_fault : {T : Type 0} (shaped ranged : Bool) (x : T)
    → fault_in (if shaped then (if ranged then Ok x else Err IdRange) else Err Shape) ≡ judged shaped ranged
checked_fault true true x = refl
checked_fault true false x = refl
checked_fault false ranged x = refl

with_fault : {T : Type 0} (kinds : List Kind) (parts : Option Args → T) (ds : Items) (tail : Result (Option Args) MessageFault)
    → fault_in (checked_with kinds parts ds tail) ≡ behind_tail tail (judged (are_shaped kinds ds) (are_in_range kinds ds))
with_fault kinds parts ds (Err fault) = refl
with_fault kinds parts ds (Ok args) = checked_fault (are_shaped kinds ds) (are_in_range kinds ds) (parts args)

front_first : {T : Type 0} (front : Bool) (kinds : List Kind) (tail : Tail) (parts : Option Args → T) (ds rest : Items)
    → has_front kinds ds ≡ front → behind kinds ds ≡ rest
    → fault_in (taken (record { kinds = kinds; tail = tail }) (λ ds args. parts args) ds) ≡ first_fault (record { kinds = kinds; tail = tail }) ds
front_first false kinds tail parts ds rest f b = rw f refl
front_first true kinds nothing_more parts ds no_items f b =
    rw (f, b) (with_fault kinds parts ds (Ok None) ∙ judged_first (are_shaped kinds ds) (are_in_range kinds ds))
front_first true kinds nothing_more parts ds (item d ds') f b = rw (f, b) refl
front_first true kinds (arguments may) parts ds rest f b =
    rw (f, b) (with_fault kinds parts ds (args_taken may (args_given rest))
    ∙ args_first may (are_shaped kinds ds) (are_in_range kinds ds) (args_given rest))

pub taken_first : {T : Type 0} (layout : Layout) (parts : Items → Option Args → T) (ds : Items)
    → fault_in (taken layout parts ds) ≡ first_fault layout ds
taken_first layout parts ds =
    front_first (has_front layout.kinds ds) layout.kinds layout.tail (parts ds) ds (behind layout.kinds ds) refl refl
