-- The numbers of a script: decimal digits without sign or leading zero (docs/SCRIPTS.md, "Lines").
use Rattle.std.specs.Prelude.{ℕ, Bool, false, ◌&&◌, nat_le, List, [], ◌∷◌, Option, Some, None, if◌then◌else◌}
use Rattle.std.specs.Str.{all_ascii_digits}
use Rattle.std.specs.Str.Parse.{digits_value}

-- the digits from 1 to 9
abbrev pub is_leading_digit : ℕ → Bool
is_leading_digit octet = nat_le 49 octet && nat_le octet 57

abbrev pub begins_with_digit : List ℕ → Bool
begins_with_digit [] = false
begins_with_digit (first ∷ more) = is_leading_digit first

-- one digit or more, nothing else, and no leading zero
abbrev pub is_number : List ℕ → Bool
is_number word = begins_with_digit word && all_ascii_digits word

-- the number from 1 to `most` that the word writes, if it writes one
abbrev pub number_in : ℕ → List ℕ → Option ℕ
number_in most word = if is_number word && nat_le (digits_value 10 word) most then Some (digits_value 10 word) else None
