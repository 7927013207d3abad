-- The JSON values that a message may carry (docs/PROTOCOL.md, "Reading").
use Rattle.std.proofs.Common.{◌≡◌, refl, ap, ap₂}
use base.Stored.{Gv, gnil, gnum, gcons, Coded, coded_ℕ, coded_ℤ, coded_bool, coded_float, coded_list}
use Rattle.std.specs.Prelude.{ℕ, ◌<◌, ◌≤◌, ◌^◌, pos, negsuc, List, [], ◌∷◌, Bool, not, ◌&&◌, nat_le, if◌then◌else◌, Result, Ok, Err, ⊤}
use Rattle.std.specs.Ordering.{nat_cmp}
use Rattle.std.specs.Cmp.Lexicographic.{slice_cmp}
use Rattle.std.specs.List.Sorted.{IsStrictlySortedBy}
use Rattle.serde_json.specs.Data.{Num, unsigned, negative, float, Data, null, boolean, number, string, array, object, Items}
use Rattle.serde_json.specs.Data.{no_items, item, Members, no_members, member, depth}
use Rattle.serde_json.specs.Written.{has_float}
use Rattle.wamp_values.specs.declared.fault.ValueFault.{ValueFault}
use Rattle.wamp_values.specs.declared.fault.ValueFault.TheVariants.{Number, Deep}

-- a whole number from -2^63 to 2^64-1: one that an i64 or a u64 holds
abbrev pub IsHeld : Num → Type 0
IsHeld (unsigned n) = n < 2 ^ 64
IsHeld (negative (pos n)) = ⊥
IsHeld (negative (negsuc n)) = n < 2 ^ 63
IsHeld (float x) = ⊥

abbrev pub keys : Members → List (List ℕ)
keys no_members = []
keys (member k d ms) = k ∷ keys ms

-- each number is held as an i64 or a u64, and an object's keys are in byte order, each once
abbrev mutual
  pub IsPlain : Data → Type 0
  IsPlain null = ⊤
  IsPlain (boolean b) = ⊤
  IsPlain (number n) = IsHeld n
  IsPlain (string s) = ⊤
  IsPlain (array ds) = ItemsArePlain ds
  IsPlain (object ms) = IsStrictlySortedBy (slice_cmp nat_cmp) (keys ms) × MembersArePlain ms

  pub ItemsArePlain : Items → Type 0
  ItemsArePlain no_items = ⊤
  ItemsArePlain (item d ds) = IsPlain d × ItemsArePlain ds

  pub MembersArePlain : Members → Type 0
  MembersArePlain no_members = ⊤
  MembersArePlain (member k d ms) = IsPlain d × MembersArePlain ms

-- how deep a payload may nest: with the message's own array, 127
abbrev pub deepest : ℕ
deepest = 126

-- no number is a float, and it nests no deeper than that
abbrev pub is_fit : Data → Bool
is_fit d = not (has_float d) && nat_le (depth d) deepest

pub record IsPayload (d : Data) : Type 0 where
  pub plain : IsPlain d
  pub nests : depth d ≤ deepest

-- the payload that a value is, or why it is none: the first cause that fits
abbrev pub payload_of : Data → Result Data ValueFault
payload_of d = if has_float d then Err Number else (if nat_le (depth d) deepest then Ok d else Err Deep)

-- ---- how the logic stores a JSON value: a tree of numbers that tells it apart from every other

abbrev head : Gv → Gv
head gnil = gnil
head (gnum n) = gnil
head (gcons a b) = a

abbrev tail : Gv → Gv
tail gnil = gnil
tail (gnum n) = gnil
tail (gcons a b) = b

abbrev pub num_code : Num → Gv
num_code (unsigned n) = gcons (gnum 0) (coded_ℕ.code n)
num_code (negative z) = gcons (gnum 1) (coded_ℤ.code z)
num_code (float x) = gcons (gnum 2) (coded_float.code x)

num_inj : (m n : Num) → num_code m ≡ num_code n → m ≡ n
num_inj (unsigned m) (unsigned n) p = ap unsigned (coded_ℕ.inj m n (ap tail p))
num_inj (negative m) (negative n) p = ap negative (coded_ℤ.inj m n (ap tail p))
num_inj (float m) (float n) p = ap float (coded_float.inj m n (ap tail p))
num_inj m n p = cc

abbrev mutual
  pub data_code : Data → Gv
  data_code null = gcons (gnum 0) gnil
  data_code (boolean b) = gcons (gnum 1) (coded_bool.code b)
  data_code (number n) = gcons (gnum 2) (num_code n)
  data_code (string s) = gcons (gnum 3) ((coded_list coded_ℕ).code s)
  data_code (array ds) = gcons (gnum 4) (items_code ds)
  data_code (object ms) = gcons (gnum 5) (members_code ms)

  pub items_code : Items → Gv
  items_code no_items = gnil
  items_code (item d ds) = gcons (data_code d) (items_code ds)

  pub members_code : Members → Gv
  members_code no_members = gnil
  members_code (member k d ms) = gcons ((coded_list coded_ℕ).code k) (gcons (data_code d) (members_code ms))

mutual
  pub data_inj : (d e : Data) → data_code d ≡ data_code e → d ≡ e
  data_inj null null p = refl
  data_inj (boolean a) (boolean b) p = ap boolean (coded_bool.inj a b (ap tail p))
  data_inj (number m) (number n) p = ap number (num_inj m n (ap tail p))
  data_inj (string s) (string t) p = ap string ((coded_list coded_ℕ).inj s t (ap tail p))
  data_inj (array ds) (array es) p = ap array (items_inj ds es (ap tail p))
  data_inj (object ms) (object ns) p = ap object (members_inj ms ns (ap tail p))
  data_inj d e p = cc

  pub items_inj : (ds es : Items) → items_code ds ≡ items_code es → ds ≡ es
  items_inj no_items no_items p = refl
  items_inj (item d ds) (item e es) p = ap₂ item (data_inj d e (ap head p)) (items_inj ds es (ap tail p))
  items_inj ds es p = cc

  pub members_inj : (ms ns : Members) → members_code ms ≡ members_code ns → ms ≡ ns
  members_inj no_members no_members p = refl
  members_inj (member k d ms) (member l e ns) p =
      let key = (coded_list coded_ℕ).inj k l (ap head p) in
      let value = data_inj d e (ap (λ g. head (tail g)) p) in
      let rest = members_inj ms ns (ap (λ g. tail (tail g)) p) in
      λ i. member (key i) (value i) (rest i)
  members_inj ms ns p = cc

abbrev pub coded_data : Coded Data
coded_data = record { code = data_code; inj = data_inj }
