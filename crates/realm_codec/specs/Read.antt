-- What was read, in a body (docs/CONSENSUS.md, "Entry bytes"): a message, an unfit request, or a fault.
use Rattle.std.specs.Prelude.{ℕ, Bool, not, ◌&&◌, ◌||◌, true, false, ◌==◌, Option, Some, None, List, [], ◌∷◌, ◌++◌, Ok, Err}
use Rattle.std.specs.Prelude.{if◌then◌else◌}
use Rattle.command_codec.specs.declared.fault.CodecFault.TheVariants.{Short, Tag}
use Rattle.command_codec.specs.Coder.{and_then}
use Rattle.command_codec.specs.Number.{Reading, number_octets, number_reading, is_within}
use Rattle.wamp_message_types.specs.declared.fault.MessageFault.{MessageFault}
use Rattle.wamp_message_types.specs.Fault.{number_of}
use Rattle.wamp_message_types.specs.declared.read_result.UnfitKind.{UnfitKind}
use Rattle.wamp_message_types.specs.declared.read_result.UnfitKind.TheVariants as kind
use Rattle.wamp_message_types.specs.declared.read_result.Read.{Read}
use Rattle.wamp_message_types.specs.declared.read_result.Read.TheVariants.{Good, Unfit, Bad}
use Rattle.realm_codec.specs.Parts.{id_form, tagged, choice_reading, kinds, kind_octet, quiets, quiet_octet, faults}
use Rattle.realm_codec.specs.Text.{text_spelling, good_reading}

abbrev pub is_publish : UnfitKind → Bool
is_publish kind.Publish = true
is_publish kind.Subscribe = false
is_publish kind.Register = false
is_publish kind.Call = false
is_publish kind.Cancel = false
is_publish kind.Yield = false

-- only a PUBLISH may be quiet
abbrev pub may_be_quiet : UnfitKind → Bool → Bool
may_be_quiet kind quiet = not quiet || is_publish kind

abbrev pub is_unfit_spelled : UnfitKind → ℕ → Bool → Bool
is_unfit_spelled kind request quiet = is_within id_form request && may_be_quiet kind quiet

abbrev pub unfit_octets : UnfitKind → ℕ → Bool → List ℕ
unfit_octets kind request quiet = kind_octet kind ∷ (number_octets id_form request ++ quiet_octet quiet ∷ [])

abbrev pub unfit_spelling : UnfitKind → ℕ → Bool → Option (List ℕ)
unfit_spelling kind request quiet =
    if is_unfit_spelled kind request quiet then Some (1 ∷ unfit_octets kind request quiet) else None

abbrev pub fault_spelling : MessageFault → Option (List ℕ)
fault_spelling fault = Some (2 ∷ number_of fault ∷ [])

abbrev pub read_spelling : Read → Option (List ℕ)
read_spelling (Good m) = tagged 0 (text_spelling m)
read_spelling (Unfit kind request quiet) = unfit_spelling kind request quiet
read_spelling (Bad fault) = fault_spelling fault

abbrev pub unfit_reading : List ℕ → Reading Read
unfit_reading octets =
    and_then (choice_reading kind_octet kinds octets) (λ kind rest.
    and_then (number_reading id_form rest) (λ request rest.
    and_then (choice_reading quiet_octet (quiets kind) rest) (λ quiet rest. Ok (Unfit kind request quiet, rest))))

abbrev pub fault_reading : List ℕ → Reading Read
fault_reading octets = and_then (choice_reading number_of faults octets) (λ fault rest. Ok (Bad fault, rest))

abbrev pub read_reading : List ℕ → Reading Read
read_reading [] = Err Short
read_reading (tag ∷ octets) =
    if tag == 0 then good_reading octets
    else (if tag == 1 then unfit_reading octets
    else (if tag == 2 then fault_reading octets
    else Err Tag))
