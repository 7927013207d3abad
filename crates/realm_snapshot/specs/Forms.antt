-- The numbers in a snapshot: how many octets each has, the highest first, and from where to where it goes (docs/PROTOCOL.md, "Snapshots").
use Rattle.std.specs.Prelude.{◌^◌, ◌-◌}
use Rattle.command_codec.specs.declared.number.Form.{Form}

-- the version of the layout
abbrev pub version_form : Form
version_form = record { width = 1; low = 1; high = 1 }

-- how many there are of something
abbrev pub count_form : Form
count_form = record { width = 8; low = 0; high = 2 ^ 64 - 1 }

-- how many octets a pattern's text has
abbrev pub length_form : Form
length_form = record { width = 2; low = 0; high = 65535 }

abbrev pub limit_form : Form
limit_form = record { width = 4; low = 0; high = 2 ^ 32 - 1 }

abbrev pub id_form : Form
id_form = record { width = 8; low = 1; high = 9007199254740992 }

-- an id, or 0 for none
abbrev pub id_or_none_form : Form
id_or_none_form = record { width = 8; low = 0; high = 9007199254740992 }

-- no or yes
abbrev pub flag_form : Form
flag_form = record { width = 1; low = 0; high = 1 }

abbrev pub match_form : Form
match_form = record { width = 1; low = 0; high = 2 }

abbrev pub invoke_form : Form
invoke_form = record { width = 1; low = 0; high = 3 }
