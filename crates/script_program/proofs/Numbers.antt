-- What `parse` reads, as a number of a script.
use Rattle.std.proofs.Common.{◌≡◌, ℕ, ◌<◌, ◌^◌, Bool, true, false, cond, leb, List, [], ◌∷◌, length, get_or, Some, None, Result, Ok, Err, refl, arith}
use Rattle.std.specs.Prelude.{◌≢◌}
use Rattle.std.specs.Str.{all_ascii_digits}
use Rattle.std.specs.Str.Parse.{digits_value, ParsesUnsigned}
use Rattle.std.specs.Result.{OkIff}
use Rattle.std.proofs.lemmas.Bool.{false≢true, and_parts, leb-true}
use Rattle.std.proofs.lemmas.Str.Parse.{IsNumeralModel, numerals_by_value, tells_all_ascii_digits, parse_plain}
use Rattle.script_program.specs.Number.{begins_with_digit, number_in}

own : IsNumeralModel (λ ds. all_ascii_digits ds ≡ true) (digits_value 10)
own = numerals_by_value _ tells_all_ascii_digits

begins_without_plus : (bs : List ℕ) → begins_with_digit bs ≡ true → get_or bs 0 0 ≢ 43
begins_without_plus [] h e = absurd (false≢true h)
begins_without_plus (first ∷ more) h e = let low = leb-true 49 first (and_parts (leb 49 first) (leb first 57) h).0 in absurd (omega (arith, low, e))

-- all digits, and within 64 bits
abbrev pub IsRead : List ℕ → Type 0
IsRead bs = (all_ascii_digits bs ≡ true) × (0 < length bs) × (digits_value 10 bs < 2 ^ 64)

parsed : (bs : List ℕ) (r : Result ℕ (Unit {0})) → begins_with_digit bs ≡ true → ParsesUnsigned 64 10 bs r → OkIff r (IsRead bs) (digits_value 10 bs)
parsed bs r begins h = parse_plain own 64 bs r h (begins_without_plus bs begins)

pub number_read : (most : ℕ) (bs : List ℕ) (n : ℕ) (fits : Bool) → begins_with_digit bs ≡ true → ParsesUnsigned {E = Unit {0}} 64 10 bs (Ok n)
    → leb n most ≡ fits → cond fits (Some n) None ≡ number_in most bs
number_read most bs n fits begins h fit = let told = parsed bs (Ok n) begins h in rw (begins, told.0.0, ← told.1, fit) refl

pub nothing_read : (most : ℕ) (bs : List ℕ) → most < 2 ^ 64 → begins_with_digit bs ≡ true → ParsesUnsigned {E = Unit {0}} 64 10 bs (Err tt)
    → None ≡ number_in most bs
nothing_read most bs small begins h = go (all_ascii_digits bs) (leb (digits_value 10 bs) most) refl refl
  where
    long : (xs : List ℕ) → begins_with_digit xs ≡ true → 0 < length xs
    long [] h = absurd (false≢true h)
    long (x ∷ xs) h = omega arith

    go : (digits fits : Bool) → all_ascii_digits bs ≡ digits → leb (digits_value 10 bs) most ≡ fits → None ≡ number_in most bs
    go true true d f = absurd (parsed bs (Err tt) begins h (d, long bs begins, omega (arith, leb-true _ most f, small)))
    go true false d f = rw (begins, d, f) refl
    go false fits d f = rw (begins, d) refl
