-- A dictionary that tells of several keys: its tokens, its form, and how each key is read again.
use Rattle.std.proofs.Common.{◌≡◌, ◌∙◌, ℕ, ◌<◌, ◌≤◌, ◌^◌, Bool, true, false, List, [], ◌∷◌, Option, Some, None, Ordering, Less, Equal, Greater, refl, arith}
use Rattle.std.specs.Prelude.{Result, Ok, IsTrue, ⊤}
use Rattle.std.specs.Option.{option_or}
use Rattle.std.specs.Ordering.{nat_cmp, match_ordering}
use Rattle.std.specs.Cmp.Lexicographic.{slice_cmp}
use Rattle.std.specs.List.{AllByRecursion}
use Rattle.std.specs.List.Sorted.{IsStrictlySortedBy}
use Rattle.json.specs.Written.{Written}
use Rattle.serde_json.specs.Data.{Data, object, Members, no_members, member, depth, members_depth}
use Rattle.serde_json.specs.Find.{get_member}
use Rattle.wamp_ids.specs.Id.{is_id}
use Rattle.wamp_values.specs.Payload.{IsPlain, MembersArePlain, keys}
use Rattle.wamp_values.specs.Tokens.{dict_tokens, Appends}
use Rattle.wamp_values.proofs.Texts.{appended}
use Rattle.wamp_message_layouts.specs.declared.keys.Key.{Key}
use Rattle.wamp_message_layouts.specs.declared.keys.KeyType.TheVariants.{Flag, Id, Text}
use Rattle.wamp_message_layouts.specs.Keys.{name_of, type_of, is_typed, flag_at, id_at, text_at}
use Rattle.wamp_message_layouts.specs.Parts.{flag_told, id_told, text_told, told_before, told, dictionary_of, told_tokens, IsToldId}

-- ---- tokens: what is told at a key, and the rest of the dictionary

pub told_then : {E F : Type 0} {x : Unit {0}} {r : Result (Unit {0}) F} {old mid new : Written}
    (name : List ℕ) (o : Option Data) (rest : Members)
    → Appends {E = E} (Ok x) old mid (told_tokens name o) → Appends r mid new (dict_tokens rest)
    → Appends r old new (dict_tokens (told_before name o rest))
told_then name None rest p q = appended p q
told_then name (Some d) rest p q = appended p q

-- ---- form: the keys are in order, the values are plain, and none nests

abbrev pub names : List (Key × Option Data) → List (List ℕ)
names [] = []
names (entry ∷ entries) = name_of entry.0 ∷ names entries

-- none, or one that neither nests nor holds what is not kept exactly
abbrev pub IsSmall : Option Data → Type 0
IsSmall None = ⊤
IsSmall (Some d) = IsPlain d × (depth d ≡ 0)

abbrev pub AreSmall : List (Key × Option Data) → Type 0
AreSmall [] = ⊤
AreSmall (entry ∷ entries) = IsSmall entry.1 × AreSmall entries

abbrev IsBelow : List ℕ → List (List ℕ) → Type 0
IsBelow name others = AllByRecursion (λ other. slice_cmp nat_cmp name other ≡ Less) others

below_before : (name first : List ℕ) (o : Option Data) (rest : Members)
    → slice_cmp nat_cmp name first ≡ Less → IsBelow name (keys rest) → IsBelow name (keys (told_before first o rest))
below_before name first None rest less below = below
below_before name first (Some d) rest less below = (less, below)

below_told : (name : List ℕ) (entries : List (Key × Option Data)) → IsBelow name (names entries) → IsBelow name (keys (told entries))
below_told name [] h = tt
below_told name (entry ∷ entries) h =
    below_before name (name_of entry.0) entry.1 (told entries) h.0 (below_told name entries h.1)

sorted_before : (first : List ℕ) (o : Option Data) (rest : Members) → IsBelow first (keys rest)
    → IsStrictlySortedBy (slice_cmp nat_cmp) (keys rest) → IsStrictlySortedBy (slice_cmp nat_cmp) (keys (told_before first o rest))
unfolding IsStrictlySortedBy
sorted_before first None rest below sorted = sorted
sorted_before first (Some d) rest below sorted = (below, sorted)

sorted_told : (entries : List (Key × Option Data))
    → IsStrictlySortedBy (slice_cmp nat_cmp) (names entries) → IsStrictlySortedBy (slice_cmp nat_cmp) (keys (told entries))
unfolding IsStrictlySortedBy
sorted_told [] h = tt
sorted_told (entry ∷ entries) h =
    sorted_before (name_of entry.0) entry.1 (told entries) (below_told (name_of entry.0) entries h.0) (sorted_told entries h.1)

plain_before : (first : List ℕ) (o : Option Data) (rest : Members) → IsSmall o → MembersArePlain rest
    → MembersArePlain (told_before first o rest)
plain_before first None rest small plain = plain
plain_before first (Some d) rest small plain = (small.0, plain)

plain_told : (entries : List (Key × Option Data)) → AreSmall entries → MembersArePlain (told entries)
plain_told [] h = tt
plain_told (entry ∷ entries) h = plain_before (name_of entry.0) entry.1 (told entries) h.0 (plain_told entries h.1)

pub told_is_plain : (entries : List (Key × Option Data)) → IsStrictlySortedBy (slice_cmp nat_cmp) (names entries) → AreSmall entries
    → IsPlain (dictionary_of entries)
told_is_plain entries sorted small = (sorted_told entries sorted, plain_told entries small)

flat_before : (first : List ℕ) (o : Option Data) (rest : Members) → IsSmall o → members_depth rest ≡ 0
    → members_depth (told_before first o rest) ≡ 0
flat_before first None rest small flat = flat
flat_before first (Some d) rest small flat = omega (arith, small.1, flat)

flat_told : (entries : List (Key × Option Data)) → AreSmall entries → members_depth (told entries) ≡ 0
flat_told [] h = refl
flat_told (entry ∷ entries) h = flat_before (name_of entry.0) entry.1 (told entries) h.0 (flat_told entries h.1)

pub told_nests : (entries : List (Key × Option Data)) → AreSmall entries → depth (dictionary_of entries) ≤ 1
told_nests entries small = omega (arith, flat_told entries small)

pub flag_is_small : (flag : Bool) → IsSmall (flag_told flag)
flag_is_small false = tt
flag_is_small true = (tt, refl)

id_is_held : (n : ℕ) → IsTrue (is_id n) → n < 2 ^ 64
id_is_held n h = grind (arith, h)

pub id_is_small : (id : Option ℕ) → IsToldId id → IsSmall (id_told id)
id_is_small None h = tt
id_is_small (Some n) h = (id_is_held n h, refl)

pub text_is_small : (text : Option (List ℕ)) → IsSmall (text_told text)
text_is_small None = tt
text_is_small (Some text) = (tt, refl)

-- ---- reading: what is found at a key is what was told there

-- what is told at the key of this name
abbrev pub told_at : List ℕ → List (Key × Option Data) → Option Data
told_at name [] = None
told_at name (entry ∷ entries) =
    match_ordering (slice_cmp nat_cmp name (name_of entry.0)) (told_at name entries) (option_or entry.1 (told_at name entries)) (told_at name entries)

found_before : (name first : List ℕ) (o : Option Data) (rest : Members) (found : Option Data) (order : Ordering)
    → slice_cmp nat_cmp name first ≡ order → get_member name rest ≡ found
    → get_member name (told_before first o rest) ≡ match_ordering order found (option_or o found) found
found_before name first None rest found Less e h = h
found_before name first None rest found Equal e h = h
found_before name first None rest found Greater e h = h
found_before name first (Some d) rest found Less e h = rw e h
found_before name first (Some d) rest found Equal e h = rw e refl
found_before name first (Some d) rest found Greater e h = rw e h

found_told : (name : List ℕ) (entries : List (Key × Option Data)) → get_member name (told entries) ≡ told_at name entries
found_told name [] = refl
found_told name (entry ∷ entries) =
    found_before name (name_of entry.0) entry.1 (told entries) (told_at name entries) (slice_cmp nat_cmp name (name_of entry.0)) refl
    (found_told name entries)

-- what is told once
pub told_once : (o : Option Data) → option_or o None ≡ o
told_once None = refl
told_once (Some d) = refl

module _ (key : Key) (entries : List (Key × Option Data)) where
  at_key : (o : Option Data) → told_at (name_of key) entries ≡ o → get_member (name_of key) (told entries) ≡ o
  at_key o e = found_told (name_of key) entries ∙ e

  pub flag_again : (flag : Bool) → told_at (name_of key) entries ≡ flag_told flag → flag_at key (dictionary_of entries) ≡ flag
  flag_again false e = rw (at_key None e) refl
  flag_again true e = rw (at_key (flag_told true) e) refl

  pub id_again : (id : Option ℕ) → IsToldId id → told_at (name_of key) entries ≡ id_told id → id_at key (dictionary_of entries) ≡ id
  id_again None h e = rw (at_key None e) refl
  id_again (Some n) h e = rw (at_key (id_told (Some n)) e, h) refl

  pub text_again : (text : Option (List ℕ)) → told_at (name_of key) entries ≡ text_told text → text_at key (dictionary_of entries) ≡ text
  text_again None e = rw (at_key None e) refl
  text_again (Some text) e = rw (at_key (text_told (Some text)) e) refl

  pub flag_is_typed : (flag : Bool) → type_of key ≡ Flag → told_at (name_of key) entries ≡ flag_told flag → is_typed (dictionary_of entries) key ≡ true
  flag_is_typed false is e = rw (at_key None e) refl
  flag_is_typed true is e = rw (at_key (flag_told true) e, is) refl

  pub id_is_typed : (id : Option ℕ) → type_of key ≡ Id → IsToldId id → told_at (name_of key) entries ≡ id_told id
      → is_typed (dictionary_of entries) key ≡ true
  id_is_typed None is h e = rw (at_key None e) refl
  id_is_typed (Some n) is h e = rw (at_key (id_told (Some n)) e, is, h) refl

  pub text_is_typed : (text : Option (List ℕ)) → type_of key ≡ Text → told_at (name_of key) entries ≡ text_told text
      → is_typed (dictionary_of entries) key ≡ true
  text_is_typed None is e = rw (at_key None e) refl
  text_is_typed (Some text) is e = rw (at_key (text_told (Some text)) e, is) refl
