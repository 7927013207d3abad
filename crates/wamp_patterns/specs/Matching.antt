-- Which URIs a pattern matches (WAMP specification, "Pattern-based Subscriptions", "Pattern-based Registrations").
use Rattle.std.specs.Prelude.{ℕ, Bool, ◌||◌, List, nat_eq, bytes_eq}
use Rattle.std.specs.List.{starts_with}
use Rattle.std.specs.Cmp.Lexicographic.{pointwise}
use Rattle.wamp_ids.specs.declared.policy.Match.{Match}
use Rattle.wamp_ids.specs.declared.policy.Match.TheVariants.{Exact, Prefix, Wildcard}
use Rattle.wamp_ids.specs.Uri.{parts, is_empty}
use Rattle.wamp_ids.specs.Pattern.{PatternValue}

-- a pattern's component matches a URI's: it is empty, or the same
abbrev pub part_matches : List ℕ → List ℕ → Bool
part_matches part other = is_empty part || bytes_eq part other

abbrev pub text_matches : Match → List ℕ → List ℕ → Bool
text_matches Exact text uri = bytes_eq text uri
text_matches Prefix text uri = starts_with nat_eq uri text
text_matches Wildcard text uri = pointwise part_matches (parts text) (parts uri)

-- exact: the texts are equal; prefix: the pattern's text begins the URI's, wherever it ends; wildcard: there are equally many
-- components, and each of the pattern's matches
abbrev pub matches : PatternValue → List ℕ → Bool
matches pattern uri = text_matches pattern.matching pattern.text uri
