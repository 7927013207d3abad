-- Numbers on the command line: decimal digits.
use Rattle.std.specs.Prelude.{ℕ, Bool, false, ◌&&◌, nat_le, List, [], ◌∷◌, Option, Some, None, if◌then◌else◌}
use Rattle.std.specs.Str.{all_ascii_digits}
use Rattle.std.specs.Str.Parse.{digits_value}

abbrev pub is_digit : ℕ → Bool
is_digit octet = nat_le 48 octet && nat_le octet 57

abbrev pub begins_with_digit : List ℕ → Bool
begins_with_digit [] = false
begins_with_digit (first ∷ more) = is_digit first

-- one digit or more, and nothing else
abbrev pub is_number : List ℕ → Bool
is_number text = begins_with_digit text && all_ascii_digits text

-- the number up to `most` that the text writes, if it writes one
abbrev pub number_in : ℕ → List ℕ → Option ℕ
number_in most text = if is_number text && nat_le (digits_value 10 text) most then Some (digits_value 10 text) else None
