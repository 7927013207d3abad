-- The options of a publication, as what they hold at their two keys: no object of them is needed.
use Rattle.std.specs.Prelude.{◌≡◌, Bool, true, false, Option, Some, None, codes}
use Rattle.serde_json.specs.Data.{Data, object, Items, Members}
use Rattle.serde_json.specs.Find.{as_bool}
use Rattle.wamp_values.specs.Found.{bool_at, is_or_other}
use Rattle.wamp_values.specs.declared.found.Found.{Found}
use Rattle.wamp_values.specs.declared.found.Found.TheVariants.{Absent, Is, Other}
use Rattle.wamp_message_layouts.specs.Layouts.{taken, id_dictionary_text_args, Asked, asked_of}
use Rattle.wamp_message_types.specs.declared.read_result.Read.{Read}
use Rattle.wamp_messages.specs.ReadResult.{read_as}
use Rattle.wamp_messages.specs.Publish.{publish_with}
use Rattle.wamp_messages.specs.declared.flags.Flags.{Flags}

-- the truth value at a key, or a value of another type
abbrev pub truth_of : Data → Found Bool
truth_of d = is_or_other (as_bool d)

abbrev pub flag_of : Bool → Found Bool → Option Bool
flag_of missing Absent = Some missing
flag_of missing (Is flag) = Some flag
flag_of missing Other = None

-- the flags say what these members hold at their keys
abbrev pub Tells : Flags → Members → Type 0
Tells flags ms =
    (flags.acknowledge ≡ bool_at (codes "acknowledge") (object ms)) × (flags.exclude_me ≡ bool_at (codes "exclude_me") (object ms))

-- a publication with these flags in the place of its options
abbrev pub flagged_read : Flags → Asked → Read
flagged_read flags asked =
    publish_with asked.request (flag_of false flags.acknowledge) (flag_of true flags.exclude_me) asked.uri asked.args

abbrev pub flagged_in : Flags → Items → Read
flagged_in flags ds = read_as (flagged_read flags) (taken id_dictionary_text_args asked_of ds)
