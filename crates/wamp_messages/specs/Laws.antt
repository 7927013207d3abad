-- What holds of messages and their texts (docs/PROTOCOL.md, "Reading" and "Writing").
use Rattle.std.specs.Prelude.{◌≡◌, ℕ, List, find}
use Rattle.wamp_message_types.specs.declared.message.Message.{Message}
use Rattle.wamp_message_types.specs.declared.read_result.Read.TheVariants.{Good}
use Rattle.wamp_messages.specs.Message.{IsMessage}
use Rattle.wamp_messages.specs.Reading.{read_of}
use Rattle.wamp_messages.specs.Writing.{text_of}
use Rattle.wamp_messages.specs.Faults.{faults, has_fault, fault_of}

-- what is written of a message is read as that message
abbrev pub ReadsAgain : Type 0
ReadsAgain = (m : Message) → IsMessage m → read_of (text_of m) ≡ Good m

-- for octets that are no message the first of their faults is reported, and for octets without a fault none
abbrev pub FirstFaultIsTold : Type 0
FirstFaultIsTold = (octets : List ℕ) → fault_of (read_of octets) ≡ find (has_fault octets) faults
