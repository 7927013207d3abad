-- Which messages have a spelling.
use Rattle.std.proofs.Common.{◌∙◌, ◌&&◌, cond, ap, Some, None, length}
use Rattle.command_codec.specs.Number.{is_within}
use Rattle.wamp_message_types.specs.declared.read_result.Read.TheVariants.{Good}
use Rattle.wamp_messages.specs.Writing.{text_of}
use Rattle.wamp_messages.specs.Laws.{ReadsAgain}
use Rattle.realm_acts.specs.Act.{same_read, read_itself}
use Rattle.realm_codec.specs.Laws.{MessagesAreSpelled}
use Rattle.realm_codec.specs.Parts.{length_form}
use Rattle.realm_codec.specs.Text.{text_octets, text_spelling}

pub messages_are_spelled : ReadsAgain → MessagesAreSpelled
unfolding text_spelling
messages_are_spelled read_again m is =
    let within = is_within length_form (length (text_of m)) in
    ap (λ b. cond (b && within) (Some (text_octets m)) None) (ap (λ r. same_read r (Good m)) (read_again m is) ∙ read_itself (Good m))
