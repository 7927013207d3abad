-- What is given if two elements are left, a list and a dictionary.
use Rattle.std.proofs.Common.{◌≡◌, Bool, true, false, refl}
use Rattle.std.specs.Prelude.{not, ◌&&◌, nat_le, Result, Ok, Err, if◌then◌else◌}
use Rattle.serde_json.specs.Data.{Data, no_items, item, depth}
use Rattle.serde_json.specs.Written.{has_float}
use Rattle.wamp_values.specs.Payload.{deepest, is_fit, payload_of}
use Rattle.wamp_values.specs.declared.args.Args.TheVariants.{Both}
use Rattle.wamp_values.specs.declared.fault.ValueFault.{ValueFault}
use Rattle.wamp_values.specs.declared.fault.ValueFault.TheVariants.{Number, Deep}
use Rattle.wamp_message_layouts.specs.declared.elements.Given.TheVariants.{Misshapen, Inexact, Fit}
use Rattle.wamp_message_layouts.specs.Elements.{is_list, is_dictionary, args_given}

-- the payload, by the two tests in its definition
abbrev judged : Bool → Bool → Data → Result Data ValueFault
judged float near d = if float then Err Number else (if near then Ok d else Err Deep)

unfit : (float near : Bool) (d : Data) (e : ValueFault) → judged float near d ≡ Err e → (not float && near) ≡ false
unfit true near d e h = refl
unfit false true d e h = absurd cc
unfit false false d e h = refl

fit : (float near : Bool) (d p : Data) → judged float near d ≡ Ok p → (not float && near) ≡ true
fit true near d p h = absurd cc
fit false true d p h = refl
fit false false d p h = absurd cc

held : (float near : Bool) (d p : Data) → judged float near d ≡ Ok p → d ≡ p
held true near d p h = absurd cc
held false true d p h = cc
held false false d p h = absurd cc

pub first_unfit : (l d : Data) (e : ValueFault) → is_list l ≡ true → is_dictionary d ≡ true → payload_of l ≡ Err e
    → Inexact ≡ args_given (item l (item d no_items))
first_unfit l d e list dictionary h =
    let first : is_fit l ≡ false = unfit (has_float l) (nat_le (depth l) deepest) l e h in
    rw (list, dictionary, first) refl

pub second_unfit : (l d p : Data) (e : ValueFault) → is_list l ≡ true → is_dictionary d ≡ true → payload_of l ≡ Ok p → payload_of d ≡ Err e
    → Inexact ≡ args_given (item l (item d no_items))
second_unfit l d p e list dictionary g h =
    let first : is_fit l ≡ true = fit (has_float l) (nat_le (depth l) deepest) l p g in
    let second : is_fit d ≡ false = unfit (has_float d) (nat_le (depth d) deepest) d e h in
    rw (list, dictionary, first, second) refl

pub both_given : (l d p q : Data) → is_list l ≡ true → is_dictionary d ≡ true → payload_of l ≡ Ok p → payload_of d ≡ Ok q
    → (if is_list p && is_dictionary q then Fit (Both p q) else Misshapen) ≡ args_given (item l (item d no_items))
both_given l d p q list dictionary g h =
    let first : is_fit l ≡ true = fit (has_float l) (nat_le (depth l) deepest) l p g in
    let second : is_fit d ≡ true = fit (has_float d) (nat_le (depth d) deepest) d q h in
    let same : l ≡ p = held (has_float l) (nat_le (depth l) deepest) l p g in
    let other : d ≡ q = held (has_float d) (nat_le (depth d) deepest) d q h in
    rw (← same, ← other, list, dictionary, first, second) refl
