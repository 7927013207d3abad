-- A table by patterns: its entries in the order of their patterns, no two of one text and match.
use Rattle.std.specs.Prelude.{ℕ, Bool, List, ◌++◌}
use Rattle.std.specs.Map.{keys_of}
use Rattle.std.specs.List.Sorted.{IsStrictlySortedBy}
use Rattle.std.specs.Cmp.Lexicographic.{slice_cmp}
use Rattle.std.specs.declared.cmp.Ordering.{Ordering}
use Rattle.std.specs.Ordering.{nat_cmp, ordering_then, is_eq}
use Rattle.wamp_ids.specs.declared.policy.Match.{Match}
use Rattle.wamp_ids.specs.declared.policy.Match.TheVariants.{Exact, Prefix, Wildcard}
use Rattle.wamp_ids.specs.Pattern.{PatternValue}
use Rattle.wamp_patterns.specs.Texts.{with_keys}

-- exact, then prefix, then wildcard
abbrev pub rank : Match → ℕ
rank Exact = 0
rank Prefix = 1
rank Wildcard = 2

-- patterns of one match are ordered by their texts, in byte order
abbrev pub pattern_cmp : PatternValue → PatternValue → Ordering
pattern_cmp pattern other = ordering_then (nat_cmp (rank pattern.matching) (rank other.matching)) (slice_cmp nat_cmp pattern.text other.text)

-- the two have one text and match
abbrev pub same_pattern : PatternValue → PatternValue → Bool
same_pattern pattern other = is_eq (pattern_cmp pattern other)

-- in order, and no two of one text and match
abbrev pub AreInOrder : {V : Type 0} → List (PatternValue × V) → Type 0
AreInOrder entries = IsStrictlySortedBy pattern_cmp (keys_of entries)

-- the entries of one match
abbrev pub with_match : {V : Type 0} → Match → List (List ℕ × V) → List (PatternValue × V)
with_match matching texts = with_keys (λ text. record { text = text; matching = matching }) texts

-- the entries of the exact patterns, then those of the prefixes, then those of the wildcards
abbrev pub all_entries : {V : Type 0} → List (List ℕ × V) → List (List ℕ × V) → List (List ℕ × V) → List (PatternValue × V)
all_entries exact prefix wildcard = with_match Exact exact ++ (with_match Prefix prefix ++ with_match Wildcard wildcard)
