-- A message in a body (docs/CONSENSUS.md, "Entry bytes"): its written text, after its length.
use Rattle.std.specs.Prelude.{ℕ, Bool, false, ◌&&◌, nat_le, Option, Some, None, List, ◌++◌, length, take, drop, Result, Ok, Err, if◌then◌else◌}
use Rattle.std.specs.Str.{bytes_eq}
use Rattle.command_codec.specs.declared.fault.CodecFault.{CodecFault}
use Rattle.command_codec.specs.declared.fault.CodecFault.TheVariants.{Short, Range}
use Rattle.command_codec.specs.Coder.{and_then}
use Rattle.command_codec.specs.Number.{Reading, number_octets, number_reading, is_within}
use Rattle.wamp_message_types.specs.declared.message.Message.{Message}
use Rattle.wamp_message_types.specs.declared.read_result.Read.{Read}
use Rattle.wamp_message_types.specs.declared.read_result.Read.TheVariants.{Good, Unfit, Bad}
use Rattle.wamp_messages.specs.Reading.{read_of}
use Rattle.wamp_messages.specs.Writing.{text_of}
use Rattle.realm_acts.specs.Act.{same_read}
use Rattle.realm_codec.specs.Parts.{length_form}

-- its text is read as the message, which is so of each that the code holds, and is not too long
abbrev pub is_text_spelled : Message → Bool
is_text_spelled m = same_read (read_of (text_of m)) (Good m) && is_within length_form (length (text_of m))

abbrev pub text_octets : Message → List ℕ
text_octets m = number_octets length_form (length (text_of m)) ++ text_of m

unfoldable pub text_spelling : Message → Option (List ℕ)
text_spelling m = if is_text_spelled m then Some (text_octets m) else None

-- it is a message whose text is this one
abbrev pub is_written : List ℕ → Read → Bool
is_written text (Good m) = bytes_eq (text_of m) text
is_written text (Unfit kind request quiet) = false
is_written text (Bad fault) = false

-- what is read, if that text is the one that is written of it
unfoldable pub text_reading : List ℕ → Result Read CodecFault
text_reading text = if is_written text (read_of text) then Ok (read_of text) else Err Range

-- and the octets after it
abbrev pub read_before : List ℕ → Result Read CodecFault → Reading Read
read_before rest (Ok read) = Ok (read, rest)
read_before rest (Err fault) = Err fault

-- this many octets are the text
abbrev pub text_behind : ℕ → List ℕ → Reading Read
text_behind n octets = if nat_le n (length octets) then read_before (drop n octets) (text_reading (take n octets)) else Err Short

abbrev pub good_reading : List ℕ → Reading Read
good_reading octets = and_then (number_reading length_form octets) text_behind
