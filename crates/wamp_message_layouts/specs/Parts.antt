-- Parts of messages that several have, as JSON values (WAMP specification, "Message Definitions").
use Rattle.std.specs.Prelude.{ℕ, Bool, true, false, List, [], ◌∷◌, Option, None, Some, IsTrue, ⊤}
use Rattle.json.specs.Token.{Token, key}
use Rattle.serde_json.specs.Data.{Data, number, unsigned, boolean, string, object, Members, no_members, member}
use Rattle.wamp_ids.specs.Id.{is_id}
use Rattle.wamp_values.specs.Tokens.{data_tokens}
use Rattle.wamp_message_layouts.specs.Keys.{name_of}
use Rattle.wamp_message_layouts.specs.declared.keys.Key.{Key}

abbrev pub whole : ℕ → Data
whole n = number (unsigned n)

-- an object of one member
abbrev pub only : List ℕ → Data → Data
only name value = object (member name value no_members)

-- an empty dictionary of options or details
abbrev pub nothing : Data
nothing = object no_members

-- ---- dictionaries of several keys: each is told where its value is not the default

abbrev pub flag_told : Bool → Option Data
flag_told false = None
flag_told true = Some (boolean true)

abbrev pub id_told : Option ℕ → Option Data
id_told None = None
id_told (Some n) = Some (whole n)

abbrev pub text_told : Option (List ℕ) → Option Data
text_told None = None
text_told (Some text) = Some (string text)

-- what is told at this key, in front of the other members
abbrev pub told_before : List ℕ → Option Data → Members → Members
told_before name None rest = rest
told_before name (Some d) rest = member name d rest

-- what is told at these keys, in this order
abbrev pub told : List (Key × Option Data) → Members
told [] = no_members
told (entry ∷ entries) = told_before (name_of entry.0) entry.1 (told entries)

-- the dictionary of it; the keys are in the order of their octets
abbrev pub dictionary_of : List (Key × Option Data) → Data
dictionary_of entries = object (told entries)

abbrev pub told_tokens : List ℕ → Option Data → List Token
told_tokens name None = []
told_tokens name (Some d) = key name ∷ data_tokens d

-- an id that is told is one
abbrev pub IsToldId : Option ℕ → Type 0
IsToldId None = ⊤
IsToldId (Some n) = IsTrue (is_id n)
