-- Which of the patterns that match a URI serves it (WAMP specification, "Pattern-based Registrations"; the order of two wildcards
-- is this project's profile).
use Rattle.std.specs.Prelude.{ℕ, Bool, true, false, not, nat_lt, List, length, map, filter, find, Option, Some, None, if◌then◌else◌}
use Rattle.std.specs.List.{list_any, slice_split}
use Rattle.std.specs.Cmp.Lexicographic.{slice_cmp}
use Rattle.std.specs.Ordering.{is_lt, is_gt, nat_cmp, bool_cmp}
use Rattle.wamp_ids.specs.declared.policy.Match.{Match}
use Rattle.wamp_ids.specs.declared.policy.Match.TheVariants.{Exact, Prefix, Wildcard}
use Rattle.wamp_ids.specs.Uri.{parts, is_empty}
use Rattle.wamp_ids.specs.Pattern.{PatternValue}
use Rattle.wamp_patterns.specs.Matching.{matches}

-- which of the components are empty
abbrev pub gaps : List ℕ → List Bool
gaps text = map is_empty (parts text)

-- at the first component at which just one of the two is empty, it is not the first one's (false comes before true)
abbrev pub is_named_first : List ℕ → List ℕ → Bool
is_named_first text other = is_lt (slice_cmp bool_cmp (gaps text) (gaps other))

abbrev pub text_is_better : Match → List ℕ → Match → List ℕ → Bool
text_is_better Exact text Exact other = false
text_is_better Exact text Prefix other = true
text_is_better Exact text Wildcard other = true
text_is_better Prefix text Exact other = false
text_is_better Prefix text Prefix other = nat_lt (length other) (length text)
text_is_better Prefix text Wildcard other = true
text_is_better Wildcard text Exact other = false
text_is_better Wildcard text Prefix other = false
text_is_better Wildcard text Wildcard other = is_named_first text other

-- of two patterns that match one URI: exact before prefix before wildcard, the longer of two prefixes, and of two wildcards the one
-- that names the first component which only one of them names
abbrev pub better : PatternValue → PatternValue → Bool
better pattern other = text_is_better pattern.matching pattern.text other.matching other.text

module _ {X : Type 0} (pattern_of : X → PatternValue) where
  -- the entries whose patterns match the URI, in their order
  abbrev pub matching : List X → List ℕ → List X
  matching entries uri = filter (λ entry. matches (pattern_of entry) uri) entries

  -- no entry of the list has a better pattern
  abbrev pub is_unbeaten : List X → X → Bool
  is_unbeaten entries entry = not (list_any (λ other. better (pattern_of other) (pattern_of entry)) entries)

  abbrev pub unbeaten : List X → Option X
  unbeaten entries = find (is_unbeaten entries) entries

  -- the entry that serves the URI: of those that match, the one that no other beats
  abbrev pub serves : List X → List ℕ → Option X
  serves entries uri = unbeaten (matching entries uri)

  -- the better of the best so far and one more
  abbrev pub best_so_far : Option X → X → Option X
  best_so_far None entry = Some entry
  best_so_far (Some best) entry = if better (pattern_of entry) (pattern_of best) then Some entry else Some best

-- how many components a wildcard names before its first empty one, between that and the second, and so on
abbrev pub named_runs : List ℕ → List ℕ
named_runs text = map length (slice_split is_empty (parts text))

-- the greater number at the first difference
abbrev pub has_longer_run : List ℕ → List ℕ → Bool
has_longer_run text other = is_gt (slice_cmp nat_cmp (named_runs text) (named_runs other))
