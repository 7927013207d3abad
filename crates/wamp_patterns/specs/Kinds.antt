-- Kinds of patterns of one match. A URI and a kind leave one text that a pattern of this kind may have to match the URI: so a search asks
-- once for each kind that occurs. Kinds are ordered as their patterns serve.
use Rattle.std.specs.Prelude.{◌≡◌, ℕ, ◌+◌, ◌-◌, ◌*◌, ◌/◌, ◌%◌, ◌==◌, nat_le, nat_lt, Bool, true, List, [], ◌∷◌, ◌++◌, length, map, take, drop, replicate}
use Rattle.std.specs.Prelude.{Option, Some, None, slice_get, if◌then◌else◌}
use Rattle.std.specs.List.{count_by}
use Rattle.std.specs.Option.{unwrap_or}
use Rattle.std.specs.Map.{lookup, remove_entry}
use Rattle.std.specs.BTreeMap.{insert_entry}
use Rattle.wamp_ids.specs.declared.policy.Match.{Match}
use Rattle.wamp_ids.specs.declared.policy.Match.TheVariants.{Exact, Prefix, Wildcard}
use Rattle.wamp_ids.specs.Uri.{parts, is_empty}
use Rattle.wamp_patterns.specs.Texts.{is_between, same_text, text_cmp}

abbrev pub gap : List ℕ → ℕ
gap part = if is_empty part then 1 else 0

abbrev pub two_octets : ℕ → List ℕ
two_octets n = n / 256 ∷ n % 256 ∷ []

-- the last octet, 0 if the text is empty
abbrev pub ending : List ℕ → ℕ
ending text = unwrap_or (slice_get text (length text - 1)) 0

-- how many components there are
abbrev pub components : List ℕ → ℕ
components text = count_by (λ c. c == 46) text + 1

-- as many ones as there are components, then 0, then of each component whether it is empty: so the shapes of one number of components are
-- next to each other
abbrev pub shape : ℕ → List ℕ → List ℕ
shape number gaps = replicate number 1 ++ 0 ∷ gaps

-- exact patterns are of one kind, prefixes of one length and one last octet are, and wildcards of as many components of which the same
-- are empty
abbrev pub kind : Match → List ℕ → List ℕ
kind Exact text = []
kind Prefix text = two_octets (65535 - length text) ++ ending text ∷ []
kind Wildcard text = shape (components text) (map gap (parts text))

-- a text that ends so
abbrev pub ended : ℕ → List ℕ → Option (List ℕ)
ended end text = if ending text == end then Some text else None

-- as many first octets of the URI as the prefixes of this kind have, if they end as these do
abbrev pub front : List ℕ → List ℕ → Option (List ℕ)
front (high ∷ low ∷ end ∷ []) uri =
    if nat_le (65535 - (high * 256 + low)) (length uri) then ended end (take (65535 - (high * 256 + low)) uri) else None
front _ uri = None

abbrev pub is_named : List ℕ → Bool
is_named [] = true
is_named (g ∷ gaps) = g == 0

abbrev pub behind : List ℕ → List ℕ
behind [] = []
behind (g ∷ gaps) = gaps

-- the URI without the octets of the components that are to be empty
abbrev pub masked : List ℕ → List ℕ → List ℕ
masked gaps [] = []
masked gaps (c ∷ cs) = if c == 46 then 46 ∷ masked (behind gaps) cs else (if is_named gaps then c ∷ masked gaps cs else masked gaps cs)

-- it is in the range of the shapes of `number` components
abbrev pub is_shaped : ℕ → List ℕ → Bool
is_shaped number kind = is_between (replicate number 1) (1 ∷ replicate number 1) kind

-- the one text that a pattern of this kind may have to match the URI
abbrev pub filled : Match → List ℕ → List ℕ → Option (List ℕ)
filled Exact kind uri = Some uri
filled Prefix kind uri = front kind uri
filled Wildcard kind uri = if is_shaped (components uri) kind then Some (masked (drop (components uri + 1) kind) uri) else None

-- which components are empty, given whether the first one is empty so far
abbrev pub gaps_from : ℕ → List ℕ → List ℕ
gaps_from g [] = g ∷ []
gaps_from g (c ∷ cs) = if c == 46 then g ∷ gaps_from 1 cs else gaps_from 0 cs

abbrev pub first_of : {V : Type 0} → Option V → Option V → Option V
first_of (Some v) other = Some v
first_of None other = other

module _ {V : Type 0} (matching : Match) (texts : List (List ℕ × V)) where
  abbrev pub how_many : List ℕ → ℕ
  how_many k = count_by (λ entry. same_text k (kind matching entry.0)) texts

  abbrev pub found_text : Option (List ℕ) → Option V
  found_text None = None
  found_text (Some text) = lookup (same_text text) texts

  -- the value of the one pattern of this kind that matches the URI
  abbrev pub found_kind : List ℕ → List ℕ → Option V
  found_kind uri k = found_text (filled matching k uri)

  -- the value that the first of the kinds gives that gives one
  abbrev pub first_found : List ℕ → List (List ℕ) → Option V
  first_found uri [] = None
  first_found uri (k ∷ ks) = first_of (found_kind uri k) (first_found uri ks)

  abbrev pub with_value : List ℕ → Option V → List (List ℕ × V) → List (List ℕ × V)
  with_value text None found = found
  with_value text (Some v) found = insert_entry text_cmp found text v

  abbrev pub with_text : Option (List ℕ) → List (List ℕ × V) → List (List ℕ × V)
  with_text None found = found
  with_text (Some text) found = with_value text (lookup (same_text text) texts) found

  -- what was found, with what each of the kinds gives, in the order of the texts
  abbrev pub all_found : List ℕ → List (List ℕ × V) → List (List ℕ) → List (List ℕ × V)
  all_found uri found [] = found
  all_found uri found (k ∷ ks) = all_found uri (with_text (filled matching k uri) found) ks

abbrev pub positive : ℕ → Option ℕ
positive n = if n == 0 then None else Some n

-- the kinds of the texts, each with how many are of it
abbrev pub Tells : {V : Type 0} → Match → List (List ℕ × V) → List (List ℕ × ℕ) → Type 0
Tells matching texts kinds = (k : List ℕ) → lookup (same_text k) kinds ≡ positive (how_many matching texts k)

-- how many of this kind are counted
abbrev pub count_of : List (List ℕ × ℕ) → List ℕ → ℕ
count_of kinds k = unwrap_or (lookup (same_text k) kinds) 0

-- one less of a kind, which is removed once none is left
abbrev pub lowered : List (List ℕ × ℕ) → List ℕ → List (List ℕ × ℕ)
lowered kinds k = if nat_lt 1 (count_of kinds k) then insert_entry text_cmp kinds k (count_of kinds k - 1) else remove_entry (same_text k) kinds
