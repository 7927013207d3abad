-- Acts as octets (docs/CONSENSUS.md, "Entry bytes"): a tag, and for what was said its draw and what was read.
use Rattle.std.specs.Prelude.{ℕ, ◌==◌, Option, Some, None, List, [], ◌∷◌, Ok, Err, if◌then◌else◌}
use Rattle.command_codec.specs.declared.fault.CodecFault.TheVariants.{Short, Tag}
use Rattle.command_codec.specs.Coder.{and_then}
use Rattle.command_codec.specs.Entry.{joined}
use Rattle.command_codec.specs.Number.{Reading, number_octets, number_reading, is_within}
use Rattle.realm_acts.specs.declared.act.Act.{Act}
use Rattle.realm_acts.specs.declared.act.Act.TheVariants.{Connect, Said, Hung}
use Rattle.realm_codec.specs.Parts.{id_form}
use Rattle.realm_codec.specs.Read.{read_spelling, read_reading}

abbrev pub draw_spelling : ℕ → Option (List ℕ)
draw_spelling draw = if is_within id_form draw then Some (2 ∷ number_octets id_form draw) else None

abbrev pub act_spelling : Act → Option (List ℕ)
act_spelling Connect = Some (0 ∷ [])
act_spelling Hung = Some (1 ∷ [])
act_spelling (Said draw read) = joined (draw_spelling draw) (read_spelling read)

abbrev pub said_reading : List ℕ → Reading Act
said_reading octets =
    and_then (number_reading id_form octets) (λ draw rest.
    and_then (read_reading rest) (λ read rest. Ok (Said draw read, rest)))

abbrev pub act_reading : List ℕ → Reading Act
act_reading [] = Err Short
act_reading (tag ∷ octets) =
    if tag == 0 then Ok (Connect, octets)
    else (if tag == 1 then Ok (Hung, octets)
    else (if tag == 2 then said_reading octets
    else Err Tag))
