-- How many there are of each number.
use Rattle.std.specs.Prelude.{ℕ, List}
use Rattle.std.specs.Option.{unwrap_or}
use Rattle.std.specs.Ordering.{nat_cmp}
use Rattle.std.specs.BTreeMap.{is_at}
use Rattle.std.specs.Map.{lookup}

abbrev pub count_in : List (ℕ × ℕ) → ℕ → ℕ
count_in entries key = unwrap_or (lookup (is_at (nat_cmp key)) entries) 0
