-- What is read of octets that are JSON, and of others.
use Rattle.std.proofs.Common.{◌≡◌, ℕ, List, Bool, true, false, Some, None, refl}
use Rattle.std.specs.Str.{IsUtf8, is_utf8}
use Rattle.std.proofs.lemmas.Str.{is_utf8-from_IsUtf8, IsUtf8-from_is_utf8}
use Rattle.serde_json.specs.Data.{Data}
use Rattle.serde_json.specs.Read.{read}
use Rattle.wamp_message_types.specs.declared.fault.MessageFault.TheVariants.{NotJson}
use Rattle.wamp_message_types.specs.declared.read_result.Read.TheVariants.{Bad}
use Rattle.wamp_messages.specs.Reading.{read_of, json_read_as, message_in}

pub json_read : (octets : List ℕ) (d : Data) → IsUtf8 octets → read octets ≡ Some d → message_in d ≡ read_of octets
json_read octets d text value = rw (is_utf8-from_IsUtf8 octets text, value) refl

pub octets_read : (octets : List ℕ) → IsUtf8 octets → json_read_as (read octets) ≡ read_of octets
octets_read octets text = rw (is_utf8-from_IsUtf8 octets text) refl

refused : (octets : List ℕ) (b : Bool) → is_utf8 octets ≡ b → (IsUtf8 octets → read octets ≡ None) → Bad NotJson ≡ read_of octets
refused octets true text none = rw (text, none (IsUtf8-from_is_utf8 octets text)) refl
refused octets false text none = rw text refl

pub no_json : (octets : List ℕ) → (IsUtf8 octets → read octets ≡ None) → Bad NotJson ≡ read_of octets
no_json octets none = refused octets (is_utf8 octets) refl none
