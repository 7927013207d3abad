-- A sum as octets, and the sum that octets are.
use Rattle.std.specs.Prelude.{ℕ, List, Option, Some, None, Result, Ok, Err}
use Rattle.std.specs.Int.{bytes_high_first}
use Rattle.command_codec.specs.declared.fault.CodecFault.{CodecFault}
use Rattle.command_codec.specs.declared.number.Form.{Form}
use Rattle.command_codec.specs.Entry.{whole}
use Rattle.command_codec.specs.Number.{number_reading}

abbrev pub sum_form : Form
sum_form = record { width = 8; low = 0; high = 18446744073709551615 }

abbrev pub saved_sum : ℕ → List ℕ
saved_sum sum = bytes_high_first 8 sum

abbrev pub of_whole : Result ℕ CodecFault → Option ℕ
of_whole (Ok sum) = Some sum
of_whole (Err fault) = None

-- no more and no less
abbrev pub loaded_sum : List ℕ → Option ℕ
loaded_sum octets = of_whole (whole (number_reading sum_form octets))
