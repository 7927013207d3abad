-- The keys of options and details as data: the name of each, and the type of its value; what a dictionary holds at a key (WAMP
-- specification, "Protocol Messages": Options|dict, Details|dict; the keys and their defaults: docs/PROTOCOL.md, "Messages").
use Rattle.std.specs.Prelude.{ℕ, Bool, true, false, List, Option, Some, None, codes, is_some, option_and_then, unwrap_or}
use Rattle.std.specs.List.{list_all}
use Rattle.serde_json.specs.Data.{Data}
use Rattle.serde_json.specs.Find.{get, as_bool, as_str}
use Rattle.wamp_message_layouts.specs.Elements.{id_in, is_text}
use Rattle.wamp_message_layouts.specs.declared.keys.Key.{Key}
use Rattle.wamp_message_layouts.specs.declared.keys.Key.TheVariants.{Caller, DiscloseMe, Procedure, Progress, ReceiveProgress, Topic}
use Rattle.wamp_message_layouts.specs.declared.keys.KeyType.{KeyType}
use Rattle.wamp_message_layouts.specs.declared.keys.KeyType.TheVariants.{Flag, Id, Text}

abbrev pub name_of : Key → List ℕ
name_of Caller = codes "caller"
name_of DiscloseMe = codes "disclose_me"
name_of Procedure = codes "procedure"
name_of Progress = codes "progress"
name_of ReceiveProgress = codes "receive_progress"
name_of Topic = codes "topic"

abbrev pub type_of : Key → KeyType
type_of Caller = Id
type_of DiscloseMe = Flag
type_of Procedure = Text
type_of Progress = Flag
type_of ReceiveProgress = Flag
type_of Topic = Text

-- ---- the test of a dictionary

abbrev pub has_type : KeyType → Data → Bool
has_type Flag d = is_some (as_bool d)
has_type Id d = is_some (id_in d)
has_type Text d = is_text d

abbrev pub is_missing_or : KeyType → Option Data → Bool
is_missing_or t None = true
is_missing_or t (Some d) = has_type t d

-- a value of its type is at the key, or none
abbrev pub is_typed : Data → Key → Bool
is_typed details key = is_missing_or (type_of key) (get (name_of key) details)

abbrev pub are_typed : List Key → Data → Bool
are_typed keys details = list_all (is_typed details) keys

-- ---- the value at a key, or its default

abbrev pub flag_at : Key → Data → Bool
flag_at key details = unwrap_or (option_and_then as_bool (get (name_of key) details)) false

abbrev pub id_at : Key → Data → Option ℕ
id_at key details = option_and_then id_in (get (name_of key) details)

abbrev pub text_at : Key → Data → Option (List ℕ)
text_at key details = option_and_then as_str (get (name_of key) details)
