-- What a glance shows: a plain text breaks no rule, and one that begins otherwise is not the router's own.
use Rattle.std.proofs.Common.{◌≡◌, ℕ, zero, suc, ◌<◌, ◌&&◌, ◌==◌, Bool, true, false, not, List, [], ◌∷◌, length, slice_get, slice_index, if◌then◌else◌, refl, sym, ap, ◌∙◌, arith}
use Rattle.std.specs.List.{list_any, onto_first}
use Rattle.std.specs.Char.{is_whitespace}
use Rattle.std.specs.Str.{IsAscii}
use Rattle.std.proofs.lemmas.Str.{chars-IsAscii}
use Rattle.wamp_ids.specs.Uri.{parts, is_empty, has_space, has_hash, has_empty_part, is_reserved, is_wamp}
use Rattle.wamp_ids.specs.Glance.{is_visible, is_plain}

-- what the first character shows, and what the rest is then
data Shown (begins : Bool) (c : ℕ) (cs : List ℕ) : Type 0 where
  dot : (c == 46) ≡ true → c ≡ 46 → begins ≡ false → is_plain true cs ≡ true → Shown begins c cs
  other : (c == 46) ≡ false → 32 < c → c < 127 → (c == 35) ≡ false → is_plain false cs ≡ true → Shown begins c cs

shown_by : (begins : Bool) (c : ℕ) (cs : List ℕ) (d v : Bool) → (c == 46) ≡ d → is_visible c ≡ v
    → (if d then not begins && is_plain true cs else v && is_plain false cs) ≡ true → Shown begins c cs
shown_by false c cs true v e f h = dot e (grind arith) refl h
shown_by true c cs true v e f h = absurd (cc)
shown_by begins c cs false true e f h = other e (grind arith) (grind arith) (grind arith) h
shown_by begins c cs false false e f h = absurd (cc)

shown : (begins : Bool) (c : ℕ) (cs : List ℕ) → is_plain begins (c ∷ cs) ≡ true → Shown begins c cs
shown begins c cs h = shown_by begins c cs (c == 46) (is_visible c) refl refl h

no_space : (c : ℕ) → 32 < c → c < 127 → is_whitespace c ≡ false
no_space c low high = grind arith

spaceless_by : (begins : Bool) (c : ℕ) (cs : List ℕ) → ((b : Bool) → is_plain b cs ≡ true → list_any is_whitespace cs ≡ false)
    → Shown begins c cs → list_any is_whitespace (c ∷ cs) ≡ false
spaceless_by begins c cs later (dot d e b h) = rw (e, later true h) refl
spaceless_by begins c cs later (other d low high hash h) = rw (no_space c low high, later false h) refl

spaceless : (begins : Bool) (cs : List ℕ) → is_plain begins cs ≡ true → list_any is_whitespace cs ≡ false
spaceless begins [] h = refl
spaceless begins (c ∷ cs) h = spaceless_by begins c cs (λ b g. spaceless b cs g) (shown begins c cs h)

hashless_by : (begins : Bool) (c : ℕ) (cs : List ℕ) → ((b : Bool) → is_plain b cs ≡ true → has_hash cs ≡ false)
    → Shown begins c cs → has_hash (c ∷ cs) ≡ false
hashless_by begins c cs later (dot d e b h) = rw (e, later true h) refl
hashless_by begins c cs later (other d low high hash h) = rw (hash, later false h) refl

hashless : (begins : Bool) (cs : List ℕ) → is_plain begins cs ≡ true → has_hash cs ≡ false
hashless begins [] h = refl
hashless begins (c ∷ cs) h = hashless_by begins c cs (λ b g. hashless b cs g) (shown begins c cs h)

ascii_by : (begins : Bool) (c : ℕ) (cs : List ℕ) → ((b : Bool) → is_plain b cs ≡ true → IsAscii cs) → Shown begins c cs → IsAscii (c ∷ cs)
ascii_by begins c cs later (dot d e b h) zero = omega (arith, e)
ascii_by begins c cs later (dot d e b h) (suc i) = later true h i
ascii_by begins c cs later (other d low high hash h) zero = omega (arith, high)
ascii_by begins c cs later (other d low high hash h) (suc i) = later false h i

ascii : (begins : Bool) (cs : List ℕ) → is_plain begins cs ≡ true → IsAscii cs
ascii begins [] h = λ i. omega arith
ascii begins (c ∷ cs) h = ascii_by begins c cs (λ b g. ascii b cs g) (shown begins c cs h)

-- ---- no part is empty

not_zero : (n : ℕ) → (suc n == 0) ≡ false
not_zero n = grind arith

first_filled : (x : ℕ) (p : List ℕ) (ps : List (List ℕ)) → list_any is_empty ((x ∷ p) ∷ ps) ≡ list_any is_empty ps
first_filled x p ps = rw (not_zero (length p)) refl

longer : (x c : ℕ) (ps : List (List ℕ)) → list_any is_empty (onto_first x (onto_first c ps)) ≡ list_any is_empty (onto_first c ps)
longer x c [] = refl
longer x c (p ∷ ps) = first_filled x (c ∷ p) ps ∙ sym (first_filled c p ps)

abbrev AreFilled : List ℕ → Type 0
AreFilled cs =
    (is_plain true cs ≡ true → has_empty_part cs ≡ false)
    × ((x : ℕ) → is_plain false cs ≡ true → list_any is_empty (onto_first x (parts cs)) ≡ false)

filled_from : (c : ℕ) (cs : List ℕ) → AreFilled cs → Shown true c cs → has_empty_part (c ∷ cs) ≡ false
filled_from c cs later (dot d e b h) = absurd (cc)
filled_from c cs later (other d low high hash h) = rw d (later.1 c h)

filled_within : (x c : ℕ) (cs : List ℕ) → AreFilled cs → Shown false c cs → list_any is_empty (onto_first x (parts (c ∷ cs))) ≡ false
filled_within x c cs later (dot d e b h) = rw d (later.0 h)
filled_within x c cs later (other d low high hash h) = rw d (longer x c (parts cs) ∙ later.1 c h)

are_filled : (cs : List ℕ) → AreFilled cs
are_filled [] = (λ h. absurd (cc), λ x h. refl)
are_filled (c ∷ cs) = (λ h. filled_from c cs (are_filled cs) (shown true c cs h), λ x h. filled_within x c cs (are_filled cs) (shown false c cs h))

pub glance_shows : (text : List ℕ) → is_plain true text ≡ true → (has_space text ≡ false) × (has_hash text ≡ false) × (has_empty_part text ≡ false)
glance_shows text h = (
  ap (list_any is_whitespace) (chars-IsAscii text (ascii true text h)) ∙ spaceless true text h,
  hashless true text h,
  (are_filled text).0 h,
)

-- ---- not the router's own

other_part : (c : ℕ) (ps : List (List ℕ)) → (c == 119) ≡ false → is_wamp (slice_get (onto_first c ps) 0) ≡ false
other_part c [] h = rw h refl
other_part c (p ∷ ps) h = rw h refl

other_by : (c : ℕ) (cs : List ℕ) (d : Bool) → (c == 46) ≡ d → (c == 119) ≡ false → is_reserved (c ∷ cs) ≡ false
other_by c cs true d h = rw d refl
other_by c cs false d h = rw d (other_part c (parts cs) h)

pub not_own : (text : List ℕ) → (slice_index text 0 == 119) ≡ false → is_reserved text ≡ false
not_own [] h = refl
not_own (c ∷ cs) h = other_by c cs (c == 46) refl h
