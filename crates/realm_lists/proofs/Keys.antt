-- Keys of two numbers.
use Rattle.std.proofs.Common.{◌≡◌, ℕ, ◌==◌, true}
use Rattle.std.proofs.lemmas.Bool.{and_parts, eqb-true}
use Rattle.realm_lists.specs.PlaceIndex.{is_key}

pub is_key_same : (key other : ℕ × ℕ) → is_key key other ≡ true → key ≡ other
is_key_same key other h =
    let parts = and_parts (key.0 == other.0) (key.1 == other.1) h in
    let first = eqb-true key.0 other.0 parts.0 in
    let second = eqb-true key.1 other.1 parts.1 in
    λ i. (first i, second i)
