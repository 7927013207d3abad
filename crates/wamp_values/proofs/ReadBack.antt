-- What is written of a plain value is read as that value.
use Rattle.std.proofs.Common.{◌≡◌, ℕ, suc, ◌≤◌, pos, negsuc, List, [], ◌++◌, Some, Less, Greater, refl, sym, ap, ◌∙◌, subst}
use Rattle.std.proofs.Common.{arith, append-nil}
use Rattle.std.specs.List.{AllByRecursion}
use Rattle.std.specs.List.Sorted.{IsStrictlySortedBy}
use Rattle.std.specs.Ordering.{nat_cmp, ordering_reverse}
use Rattle.std.specs.Prelude.{option_map, option_and_then}
use Rattle.std.specs.Cmp.Lexicographic.{slice_cmp}
use Rattle.std.proofs.lemmas.Cmp.{nat_list_cmp_total}
use Rattle.json.specs.Json as json
use Rattle.json.specs.Lex.{tokens}
use Rattle.json.specs.Print.{IsNumber}
use Rattle.json.specs.Tree as tree
use Rattle.json.proofs.Printed.Decimals.{IsNumber-decimal, IsNumber-signed_decimal}
use Rattle.json.proofs.Printed.Tokens.{tokens-print}
use Rattle.json.proofs.Printed.Trees.{value-json_tokens, ArePrintable-json_tokens}
use Rattle.serde_json.specs.Data.{Num, unsigned, negative, float, Data, null, boolean, number, string, array, object, Items}
use Rattle.serde_json.specs.Data.{no_items, item, Members, no_members, member, put, depth, items_depth, members_depth}
use Rattle.serde_json.specs.Read.{number_of, of_json, of_items, of_members, max_depth, read}
use Rattle.serde_json.specs.Written.{compact_text, number_text, outline, items_outline, members_outline}
use Rattle.serde_json.proofs.Numbers.{number_of-decimal, number_of-negative}
use Rattle.serde_json.proofs.Texts.{print-outline}
use Rattle.wamp_values.specs.Payload.{IsHeld, IsPlain, ItemsArePlain, MembersArePlain, keys}
use Rattle.wamp_values.specs.Tokens.{data_tokens}

-- ---- numbers

number_is_read : (n : Num) → IsHeld n → number_of (number_text n) ≡ Some n
number_is_read (unsigned n) h = number_of-decimal n h
number_is_read (negative (pos n)) h = absurd h
number_is_read (negative (negsuc n)) h = number_of-negative n h
number_is_read (float x) h = absurd h

number_is_written : (n : Num) → IsHeld n → IsNumber (number_text n)
number_is_written (unsigned n) h = IsNumber-decimal n h
number_is_written (negative (pos n)) h = absurd h
number_is_written (negative (negsuc n)) h = IsNumber-signed_decimal (negsuc n) h
number_is_written (float x) h = absurd h

-- ---- a value's tokens can be printed

mutual
  has_numbers : (d : Data) → IsPlain d → tree.HasNumbers (outline d)
  has_numbers null h = tt
  has_numbers (boolean b) h = tt
  has_numbers (number n) h = number_is_written n h
  has_numbers (string s) h = tt
  has_numbers (array ds) h = items_have_numbers ds h
  has_numbers (object ms) h = members_have_numbers ms h.1

  items_have_numbers : (ds : Items) → ItemsArePlain ds → tree.ItemsHaveNumbers (items_outline ds)
  items_have_numbers no_items h = tt
  items_have_numbers (item d ds) h = (has_numbers d h.0, items_have_numbers ds h.1)

  members_have_numbers : (ms : Members) → MembersArePlain ms → tree.MembersHaveNumbers (members_outline ms)
  members_have_numbers no_members h = tt
  members_have_numbers (member k d ms) h = (has_numbers d h.0, members_have_numbers ms h.1)

-- ---- it nests as deep as its outline

mutual
  outline_depth : (d : Data) → tree.depth (outline d) ≡ depth d
  outline_depth null = refl
  outline_depth (boolean b) = refl
  outline_depth (number n) = refl
  outline_depth (string s) = refl
  outline_depth (array ds) = ap suc (items_outline_depth ds)
  outline_depth (object ms) = ap suc (members_outline_depth ms)

  items_outline_depth : (ds : Items) → tree.items_depth (items_outline ds) ≡ items_depth ds
  items_outline_depth no_items = refl
  items_outline_depth (item d ds) = rw (outline_depth d, items_outline_depth ds) refl

  members_outline_depth : (ms : Members) → tree.members_depth (members_outline ms) ≡ members_depth ms
  members_outline_depth no_members = refl
  members_outline_depth (member k d ms) = rw (outline_depth d, members_outline_depth ms) refl

-- ---- members go in one after another, each key above those before it

-- these members, then those
and_then : Members → Members → Members
and_then no_members ns = ns
and_then (member k d ms) ns = member k d (and_then ms ns)

and_then_nothing : (ms : Members) → and_then ms no_members ≡ ms
unfolding and_then
and_then_nothing no_members = refl
and_then_nothing (member k d ms) = ap (member k d) (and_then_nothing ms)

and_then_assoc : (ms : Members) (k : List ℕ) (d : Data) (ns : Members)
    → and_then (and_then ms (member k d no_members)) ns ≡ and_then ms (member k d ns)
unfolding and_then
and_then_assoc no_members k d ns = refl
and_then_assoc (member l e ms) k d ns = ap (member l e) (and_then_assoc ms k d ns)

abbrev AreInOrder : Members → Type 0
AreInOrder ms = IsStrictlySortedBy (slice_cmp nat_cmp) (keys ms)

below_middle : (l : List ℕ) (done : Members) (k : List ℕ) (d : Data) (rest : Members)
    → AllByRecursion (λ y. slice_cmp nat_cmp l y ≡ Less) (keys (and_then done (member k d rest))) → slice_cmp nat_cmp l k ≡ Less
unfolding and_then
below_middle l no_members k d rest h = h.0
below_middle l (member m e done) k d rest h = below_middle l done k d rest h.1

-- a key that is above those before it goes last
goes_last : (done : Members) (k : List ℕ) (d : Data) (rest : Members)
    → AreInOrder (and_then done (member k d rest)) → put k d done ≡ and_then done (member k d no_members)
unfolding and_then IsStrictlySortedBy
goes_last no_members k d rest h = refl
goes_last (member l e done) k d rest h =
    let above : slice_cmp nat_cmp k l ≡ Greater = nat_list_cmp_total.antisymm k l ∙ ap ordering_reverse (below_middle l done k d rest h.0) in
    rw above (ap (member l e) (goes_last done k d rest h.1))

mutual
  unfolding and_then

  value_is_read : (d : Data) → IsPlain d → of_json (outline d) ≡ Some d
  value_is_read null h = refl
  value_is_read (boolean b) h = refl
  value_is_read (number n) h = ap (option_map number) (number_is_read n h)
  value_is_read (string s) h = refl
  value_is_read (array ds) h = ap (option_map array) (items_are_read ds h)
  value_is_read (object ms) h = ap (option_map object) (members_are_read no_members ms h.0 h.1)

  items_are_read : (ds : Items) → ItemsArePlain ds → of_items (items_outline ds) ≡ Some ds
  items_are_read no_items h = refl
  items_are_read (item d ds) h = rw (value_is_read d h.0) (ap (option_map (item d)) (items_are_read ds h.1))

  members_are_read : (done ms : Members)
      → AreInOrder (and_then done ms) → MembersArePlain ms → of_members (members_outline ms) done ≡ Some (and_then done ms)
  members_are_read done no_members s h = ap Some (sym (and_then_nothing done))
  members_are_read done (member k d ms) s h =
      rw (value_is_read d h.0) (ap (of_members (members_outline ms)) (goes_last done k d ms s) ∙
      members_are_read (and_then done (member k d no_members)) ms
      (subst AreInOrder (sym (and_then_assoc done k d ms)) s) h.1 ∙ ap Some (and_then_assoc done k d ms))

-- ---- the whole text

pub reads_back : (d : Data) → IsPlain d → depth d ≤ max_depth → read (compact_text d) ≡ Some d
reads_back d plain shallow =
    let seen : tokens (compact_text d) ≡ data_tokens d ++ [] =
    ap tokens (sym (print-outline d)) ∙
    tokens-print (data_tokens d) (ArePrintable-json_tokens (outline d) (has_numbers d plain)) ∙ sym (append-nil (data_tokens d)) in
    let parsed : json.value max_depth (data_tokens d ++ []) ≡ Some (outline d, []) =
    value-json_tokens (outline d) max_depth [] (omega (arith, outline_depth d)) in
    ap (λ ts. option_and_then of_json (option_and_then (λ p. json.if_last p.0 p.1) (json.value max_depth ts))) seen
    ∙ ap (λ o. option_and_then of_json (option_and_then (λ p. json.if_last p.0 p.1) o)) parsed
    ∙ value_is_read d plain
