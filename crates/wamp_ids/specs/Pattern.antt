-- Patterns of URIs (WAMP specification, "Pattern-based Subscriptions" and "Pattern-based Registrations").
use Rattle.std.specs.Prelude.{◌≡◌, ℕ, List, Result, Ok}
use Rattle.wamp_ids.specs.declared.policy.Match.{Match}
use Rattle.wamp_ids.specs.declared.uri.UriFault.{UriFault}
use Rattle.wamp_ids.specs.Uri.{unless_faulty}

-- what contracts see of a pattern: its text, and how it matches
pub record PatternValue : Type 0 where
  pub text : List ℕ
  pub matching : Match

-- the pattern of a text and a match, or why it is no pattern
abbrev pub pattern_of : List ℕ → Match → Result PatternValue UriFault
pattern_of text matching = unless_faulty matching text (record { text = text; matching = matching })

abbrev pub IsPattern : PatternValue → Type 0
IsPattern pattern = pattern_of pattern.text pattern.matching ≡ Ok pattern
