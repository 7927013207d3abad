-- URIs, and the rules that their patterns share (WAMP specification, "URIs": loose URI check; "Pattern-based Subscriptions").
use Rattle.std.specs.Prelude.{◌≡◌, ℕ, Bool, true, false, ◌&&◌, ◌==◌, nat_lt, List, length, codes, Result, Ok, Err, Option, None, Some}
use Rattle.std.specs.Prelude.{slice_get, if◌then◌else◌, bytes_eq}
use Rattle.std.specs.List.{slice_split, list_any}
use Rattle.std.specs.Char.{is_whitespace}
use Rattle.std.specs.Str.{chars}
use Rattle.std.specs.Result.{IsOk}
use Rattle.wamp_ids.specs.declared.policy.Match.{Match}
use Rattle.wamp_ids.specs.declared.policy.Match.TheVariants.{Exact, Prefix, Wildcard}
use Rattle.wamp_ids.specs.declared.uri.UriFault.{UriFault}
use Rattle.wamp_ids.specs.declared.uri.UriFault.TheVariants.{TooLong, Space, Hash, EmptyPart, Memory}

-- the components of a text, which dots part
abbrev pub parts : List ℕ → List (List ℕ)
parts text = slice_split (λ c. c == 46) text

abbrev pub is_empty : List ℕ → Bool
is_empty part = length part == 0

abbrev pub has_space : List ℕ → Bool
has_space text = list_any is_whitespace (chars text)

abbrev pub has_hash : List ℕ → Bool
has_hash text = list_any (λ c. c == 35) text

abbrev pub has_empty_part : List ℕ → Bool
has_empty_part text = list_any is_empty (parts text)

abbrev pub is_wamp : Option (List ℕ) → Bool
is_wamp None = false
is_wamp (Some part) = bytes_eq part (codes "wamp")

-- the first component is `wamp`: such texts are the router's own
abbrev pub is_reserved : List ℕ → Bool
is_reserved text = is_wamp (slice_get (parts text) 0)

abbrev pub is_exact : Match → Bool
is_exact Exact = true
is_exact Prefix = false
is_exact Wildcard = false

-- the value, unless the text breaks a rule of its match: then the first cause that fits. An exact text has no empty component
abbrev pub unless_faulty : {A : Type 0} → Match → List ℕ → A → Result A UriFault
unless_faulty matching text value =
    if nat_lt 1024 (length text) then Err TooLong
    else (if has_space text then Err Space
    else (if has_hash text then Err Hash
    else (if is_exact matching && has_empty_part text then Err EmptyPart
    else Ok value)))

-- the URI of a text, or why it is no URI: a URI is what an exact pattern is
abbrev pub uri_of : List ℕ → Result (List ℕ) UriFault
uri_of text = unless_faulty Exact text text

abbrev pub IsUri : List ℕ → Type 0
IsUri text = uri_of text ≡ Ok text

-- the result is what is wanted; if memory runs out, a URI was wanted
abbrev pub Reads : {A : Type 0} → Result A UriFault → Result A UriFault → Type 0
Reads (Err Memory) wanted = IsOk wanted
Reads given wanted = wanted ≡ given

abbrev pub number_of : UriFault → ℕ
number_of TooLong = 1
number_of Space = 2
number_of Hash = 3
number_of EmptyPart = 4
number_of Memory = 5
