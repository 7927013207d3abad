-- What holds of payloads and their texts (RFC 8259; docs/PROTOCOL.md, "Reading" and "Writing").
use Rattle.std.specs.Prelude.{◌≡◌, ◌≤◌, Some, is_ok}
use Rattle.serde_json.specs.Data.{Data, depth}
use Rattle.serde_json.specs.Read.{read, max_depth}
use Rattle.serde_json.specs.Written.{compact_text}
use Rattle.wamp_values.specs.Payload.{IsPlain, is_fit, payload_of}

-- what is written of a value is read as that value, wherever a text may nest as deep
abbrev pub ReadsBack : Type 0
ReadsBack = (d : Data) → IsPlain d → depth d ≤ max_depth → read (compact_text d) ≡ Some d

-- exactly the fit values are taken as payloads
abbrev pub FitAreTaken : Type 0
FitAreTaken = (d : Data) → is_ok (payload_of d) ≡ is_fit d
