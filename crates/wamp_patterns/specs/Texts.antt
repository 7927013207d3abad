-- Values by texts: entries in the order of their texts, no two of one text.
use Rattle.std.specs.Prelude.{ℕ, Bool, not, ◌&&◌, List, filter, map}
use denote.Ref.{Bor}
use Rattle.std.specs.declared.cmp.Ordering.{Ordering}
use Rattle.std.specs.declared.borrow.CowSlice.{CowSlice}
use Rattle.std.specs.Ordering.{nat_cmp, is_eq, is_le}
use Rattle.std.specs.Cmp.Lexicographic.{slice_cmp}
use Rattle.std.specs.Cow.{cow_slice_items}
use Rattle.std.specs.List.Sorted.{IsStrictlySortedBy}
use Rattle.std.specs.Map.{keys_of}

-- byte order
abbrev pub text_cmp : List ℕ → List ℕ → Ordering
text_cmp text other = slice_cmp nat_cmp text other

abbrev pub same_text : List ℕ → List ℕ → Bool
same_text text other = is_eq (text_cmp text other)

abbrev pub AreTextsInOrder : {V : Type 0} → List (List ℕ × V) → Type 0
AreTextsInOrder entries = IsStrictlySortedBy text_cmp (keys_of entries)

-- from the first on, and before the last
abbrev pub is_between : List ℕ → List ℕ → List ℕ → Bool
is_between first last text = is_le (text_cmp first text) && not (is_le (text_cmp last text))

abbrev pub texts_between : {V : Type 0} → List ℕ → List ℕ → List (List ℕ × V) → List (List ℕ × V)
texts_between first last entries = filter (λ entry. is_between first last entry.0) entries

-- the entries of a map, each key by f
abbrev pub with_keys : {K B V : Type 0} → (K → B) → List (K × V) → List (B × V)
with_keys f entries = map (λ entry. (f entry.0, entry.1)) entries

abbrev pub texts_of : {Z V : Type 0} → List (CowSlice ℕ Z × V) → List (List ℕ × V)
texts_of entries = with_keys cow_slice_items entries

-- the entries of a map from texts to values that are lent
abbrev pub shown : {V : Type 0} → List (Bor (List ℕ) × Bor V) → List (List ℕ × V)
shown entries = map (λ entry. (entry.0.now, entry.1.now)) entries
