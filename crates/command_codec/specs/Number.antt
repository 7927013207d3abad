-- Numbers as octets, the highest first (docs/CONSENSUS.md, "Entry bytes").
use Rattle.std.specs.Prelude.{ℕ, zero, suc, ◌+◌, ◌-◌, ◌*◌, ◌/◌, ◌^◌, Bool, ◌&&◌, ◌||◌, nat_lt, nat_le, List, [], ◌∷◌, Result, Ok, Err}
use Rattle.std.specs.Prelude.{if◌then◌else◌}
use Rattle.std.specs.Int.{bytes_high_first}
use Rattle.command_codec.specs.declared.fault.CodecFault.{CodecFault}
use Rattle.command_codec.specs.declared.fault.CodecFault.TheVariants.{Short, Range}
use Rattle.command_codec.specs.declared.number.Form.{Form}

-- what is read at the head of octets, and the octets after it, or the fault of the first wrong octet
abbrev pub Reading : Type 0 → Type 0
Reading A = Result (A × List ℕ) CodecFault

-- a number without its lowest octets
abbrev pub cut : ℕ → ℕ → ℕ
cut n octets = n / 256 ^ octets

-- the number goes on from what has come, with this many octets left: it is wrong at the first octet after which what has come
-- is below `low` or above `high`, each cut to as many octets
abbrev pub number_from : ℕ → ℕ → ℕ → ℕ → List ℕ → Reading ℕ
number_from so_far zero low high octets = Ok (so_far, octets)
number_from so_far (suc left) low high [] = Err Short
number_from so_far (suc left) low high (octet ∷ octets) =
    let come = so_far * 256 + octet in
    if nat_lt come (cut low left) || nat_lt (cut high left) come then Err Range
    else number_from come left low high octets

-- the number at the head of octets
unfoldable pub number_reading : Form → List ℕ → Reading ℕ
number_reading form octets = number_from 0 form.width form.low form.high octets

-- a number's octets
unfoldable pub number_octets : Form → ℕ → List ℕ
number_octets form n = bytes_high_first form.width n

abbrev pub is_within : Form → ℕ → Bool
is_within form n = nat_le form.low n && nat_le n form.high

-- the forms of the numbers in an entry
abbrev pub node_form : Form
node_form = record { width = 1; low = 1; high = 7 }

abbrev pub boot_form : Form
boot_form = record { width = 8; low = 1; high = 2 ^ 48 - 1 }

abbrev pub seq_form : Form
seq_form = record { width = 8; low = 1; high = 2 ^ 48 - 1 }

abbrev pub transport_form : Form
transport_form = record { width = 4; low = 1; high = 2 ^ 32 - 1 }
