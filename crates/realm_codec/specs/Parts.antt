-- Parts of a spelling (docs/CONSENSUS.md, "Entry bytes"): tags, numbers, and one octet for one of a few values.
use Rattle.std.specs.Prelude.{ℕ, ◌^◌, ◌-◌, Bool, true, false, ◌==◌, Option, Some, None, List, [], ◌∷◌, Ok, Err, find}
use Rattle.command_codec.specs.declared.fault.CodecFault.TheVariants.{Short, Range}
use Rattle.command_codec.specs.declared.number.Form.{Form}
use Rattle.command_codec.specs.Number.{Reading}
use Rattle.wamp_message_types.specs.declared.fault.MessageFault.{MessageFault}
use Rattle.wamp_message_types.specs.declared.fault.MessageFault.TheVariants as fault
use Rattle.wamp_message_types.specs.declared.read_result.UnfitKind.{UnfitKind}
use Rattle.wamp_message_types.specs.declared.read_result.UnfitKind.TheVariants as kind

-- the forms of the numbers in a body
abbrev pub id_form : Form
id_form = record { width = 8; low = 1; high = 2 ^ 53 }

abbrev pub length_form : Form
length_form = record { width = 4; low = 0; high = 2 ^ 32 - 1 }

-- after a tag
abbrev pub tagged : ℕ → Option (List ℕ) → Option (List ℕ)
tagged tag None = None
tagged tag (Some octets) = Some (tag ∷ octets)

-- a value and the octets after it, or an octet that is out of its range
abbrev pub chosen : {A : Type 0} → Option A → List ℕ → Reading A
chosen None rest = Err Range
chosen (Some value) rest = Ok (value, rest)

-- the one of these values that has the octet
abbrev pub choice_reading : {A : Type 0} → (A → ℕ) → List A → List ℕ → Reading A
choice_reading octet_of values [] = Err Short
choice_reading octet_of values (octet ∷ rest) = chosen (find (λ value. octet == octet_of value) values) rest

-- the kinds of unfit requests, each by its message's code
abbrev pub kinds : List UnfitKind
kinds = kind.Publish ∷ kind.Subscribe ∷ kind.Register ∷ kind.Call ∷ kind.Cancel ∷ kind.Yield ∷ []

abbrev pub kind_octet : UnfitKind → ℕ
kind_octet kind.Publish = 16
kind_octet kind.Subscribe = 32
kind_octet kind.Register = 64
kind_octet kind.Call = 48
kind_octet kind.Cancel = 49
kind_octet kind.Yield = 70

-- whether a request is quiet: only a PUBLISH may be
abbrev pub quiets : UnfitKind → List Bool
quiets kind.Publish = false ∷ true ∷ []
quiets kind.Subscribe = false ∷ []
quiets kind.Register = false ∷ []
quiets kind.Call = false ∷ []
quiets kind.Cancel = false ∷ []
quiets kind.Yield = false ∷ []

abbrev pub quiet_octet : Bool → ℕ
quiet_octet false = 0
quiet_octet true = 1

-- the faults of messages, each by its number
abbrev pub faults : List MessageFault
faults = fault.NotJson ∷ fault.NotArray ∷ fault.Kind ∷ fault.Length ∷ fault.Shape ∷ fault.IdRange ∷ []
