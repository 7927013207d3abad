-- What the module `laws` states of the definitions beside it.
use Rattle.std.specs.Prelude.{◌≡◌, Some, None, length, if◌then◌else◌}
use Rattle.command_codec.specs.Number.{is_within}
use Rattle.wamp_message_types.specs.declared.message.Message.{Message}
use Rattle.wamp_messages.specs.Message.{IsMessage}
use Rattle.wamp_messages.specs.Writing.{text_of}
use Rattle.realm_codec.specs.Parts.{length_form}
use Rattle.realm_codec.specs.Text.{text_octets, text_spelling}

-- a message with the ids, payloads and texts that messages have is spelled exactly if its text is not too long
abbrev pub MessagesAreSpelled : Type 0
MessagesAreSpelled =
    (m : Message) → IsMessage m
    → text_spelling m ≡ (if is_within length_form (length (text_of m)) then Some (text_octets m) else None)
