-- Where a list is cut.
use Rattle.std.proofs.Common.{◌≡◌, ℕ, ◌+◌, ◌<◌, Bool, true, false, List, [], ◌∷◌, length, take, drop, get_or, eqb, ◌-◌, subst, refl, arith}
use Rattle.std.specs.List.{slice_split, position_or_len, before_first, after_first}
use Rattle.std.proofs.lemmas.List.{take_all, length-drop}
use Rattle.memchr.specs.Find.{Nowhere, NoneBefore, Passes, is_byte}
use Rattle.std.proofs.lemmas.List.Splits.{slice_split_none, slice_split_first}
use Rattle.std.proofs.lemmas.List.Sums.{position_or_len_is, fails_before_first}

off : (b : Bool) → (b ≡ true → ⊥) → b ≡ false
off true never = absurd (never refl)
off false never = refl

pub cut_nowhere : (p : ℕ → Bool) (xs : List ℕ) → position_or_len p xs ≡ length xs → slice_split p xs ≡ xs ∷ []
cut_nowhere p xs e = slice_split_none p xs (λ k d l. fails_before_first p xs k d (omega (arith, e, l)))

pub cut_never : (p : ℕ → Bool) (xs : List ℕ) → ((k : ℕ) → k < length xs → p (get_or xs k 0) ≡ false) → slice_split p xs ≡ xs ∷ []
cut_never p xs never =
    cut_nowhere p xs (position_or_len_is p xs (length xs) 0 (omega arith) never (λ l. absurd (omega (arith, l))))

pub cut_at : (p : ℕ → Bool) (xs : List ℕ) (i : ℕ) → i < length xs → ((k : ℕ) → k < i → p (get_or xs k 0) ≡ false) → p (get_or xs i 0) ≡ true
    → slice_split p xs ≡ take i xs ∷ slice_split p (drop (i + 1) xs)
cut_at p xs i within before at =
    let is : position_or_len p xs ≡ i = position_or_len_is p xs i 0 (omega (arith, within)) before (λ l. at) in
    subst (λ j. slice_split p xs ≡ take j xs ∷ slice_split p (drop (j + 1) xs)) is (slice_split_first p xs 0 (omega (arith, is, within)))

-- the first part, and what is after the place where the list is cut
pub cut_first : (p : ℕ → Bool) (xs front rest : List ℕ) → position_or_len p xs < length xs → front ≡ before_first p xs → rest ≡ after_first p xs
    → slice_split p xs ≡ front ∷ slice_split p rest
cut_first p xs front rest within is then = rw (is, then) (slice_split_first p xs 0 within)

-- the first place whose octet is this one
pub cut_at_byte : (octet : ℕ) (xs : List ℕ) (i : ℕ) → NoneBefore (Passes (is_byte octet) xs) 0 (length xs) i × Passes (is_byte octet) xs i
    → slice_split (λ x. eqb x octet) xs ≡ take i xs ∷ slice_split (λ x. eqb x octet) (take (length xs - (i + 1)) (drop (i + 1) xs))
cut_at_byte octet xs i found =
    let whole : take (length xs - (i + 1)) (drop (i + 1) xs) ≡ drop (i + 1) xs = take_all _ _ (omega (arith, length-drop (i + 1) xs)) in
    rw whole (cut_at _ xs i found.0.high (λ k l. off _ (found.0.before k (omega arith) l)) found.1)

pub cut_at_no_byte : (octet : ℕ) (xs : List ℕ) → Nowhere (Passes (is_byte octet) xs) 0 (length xs) → slice_split (λ x. eqb x octet) xs ≡ xs ∷ []
cut_at_no_byte octet xs nowhere = cut_never _ xs (λ k l. off _ (nowhere k (omega arith) l))
