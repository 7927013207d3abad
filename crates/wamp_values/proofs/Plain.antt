-- Values whose numbers are held as i64 or u64, and whose keys are in order.
use Rattle.std.proofs.Common.{◌≡◌, List, [], ◌∷◌, true, false, Less, string_bytes, refl, arith, le-leb}
use Rattle.std.specs.Prelude.{String, ◌≤◌, Bool, not, ◌&&◌, nat_le, if◌then◌else◌, Ok, Err, is_ok}
use Rattle.std.specs.List.{AllByRecursion}
use Rattle.std.specs.List.Sorted.{IsStrictlySortedBy}
use Rattle.std.specs.Map.{keys_of}
use Rattle.std.specs.String.{string_cmp}
use Rattle.std.specs.Ordering.{nat_cmp}
use Rattle.std.specs.declared.alloc.Global.{Global}
use Rattle.std.specs.Cmp.Lexicographic.{slice_cmp}
use Rattle.serde_json.specs.Data.{Num, unsigned, negative, float, Data, null, boolean, number, string, array, object, Items}
use Rattle.serde_json.specs.Data.{no_items, item, Members, no_members, member, depth, items_depth}
use Rattle.serde_json.specs.Find.{is_float}
use Rattle.serde_json.specs.Written.{has_float, items_have_float, members_have_float}
use Rattle.serde_json.specs.View.{members_view}
use Rattle.serde_json.proofs.Views.{Entry}
use Rattle.wamp_values.specs.Payload.{IsHeld, IsPlain, ItemsArePlain, MembersArePlain, keys, IsPayload, is_fit, deepest, payload_of}
use Rattle.wamp_values.specs.declared.fault.ValueFault.TheVariants.{Number, Deep}
use Rattle.wamp_values.specs.Args.{IsArgs, args_items}
use Rattle.wamp_values.specs.declared.args.Args.{Args}
use Rattle.wamp_values.specs.declared.args.Args.TheVariants.{Nothing, List as Listed, Both}

held_is_no_float : (n : Num) → IsHeld n → is_float n ≡ false
held_is_no_float (unsigned n) h = refl
held_is_no_float (negative z) h = refl
held_is_no_float (float x) h = absurd h

mutual
  pub plain_has_no_float : (d : Data) → IsPlain d → has_float d ≡ false
  plain_has_no_float null h = refl
  plain_has_no_float (boolean b) h = refl
  plain_has_no_float (number n) h = held_is_no_float n h
  plain_has_no_float (string s) h = refl
  plain_has_no_float (array ds) h = plain_items_have_no_float ds h
  plain_has_no_float (object ms) h = plain_members_have_no_float ms h.1

  pub plain_items_have_no_float : (ds : Items) → ItemsArePlain ds → items_have_float ds ≡ false
  plain_items_have_no_float no_items h = refl
  plain_items_have_no_float (item d ds) h = rw (plain_has_no_float d h.0) (plain_items_have_no_float ds h.1)

  pub plain_members_have_no_float : (ms : Members) → MembersArePlain ms → members_have_float ms ≡ false
  plain_members_have_no_float no_members h = refl
  plain_members_have_no_float (member k d ms) h = rw (plain_has_no_float d h.0) (plain_members_have_no_float ms h.1)

-- ---- keys

below_each : (k : String Global) (es : List Entry)
    → AllByRecursion (λ y. string_cmp k y ≡ Less) (keys_of es)
    → AllByRecursion (λ y. slice_cmp nat_cmp (string_bytes k) y ≡ Less) (keys (members_view es))
below_each k [] h = tt
below_each k (e ∷ es) h = (h.0, below_each k es h.1)

-- a map's keys are in order, and so are those of the object that it is
pub keys_in_order : (es : List Entry)
    → IsStrictlySortedBy string_cmp (keys_of es) → IsStrictlySortedBy (slice_cmp nat_cmp) (keys (members_view es))
unfolding IsStrictlySortedBy
keys_in_order [] h = tt
keys_in_order (e ∷ es) h = (below_each e.0 es h.0, keys_in_order es h.1)

-- ---- payloads

taken_where : (floats within : Bool) (d : Data)
    → is_ok (if floats then Err Number else (if within then Ok d else Err Deep)) ≡ (not floats && within)
taken_where true within d = refl
taken_where false true d = refl
taken_where false false d = refl

pub fit_are_taken : (d : Data) → is_ok (payload_of d) ≡ is_fit d
fit_are_taken d = taken_where (has_float d) (nat_le (depth d) deepest) d

pub payload_is_fit : (d : Data) → IsPayload d → is_fit d ≡ true
payload_is_fit d h = rw (plain_has_no_float d h.plain) (le-leb (depth d) deepest h.nests)

-- the items that arguments are written as are plain, and nest no deeper than a payload may
pub args_are_plain : (args : Args) → IsArgs args → ItemsArePlain (args_items args)
args_are_plain Nothing h = tt
args_are_plain (Listed list) h = (h.0.plain, tt)
args_are_plain (Both list dict) h = (h.0.0.plain, (h.1.0.plain, tt))

pub args_nest : (args : Args) → IsArgs args → items_depth (args_items args) ≤ deepest
args_nest Nothing h = omega arith
args_nest (Listed list) h = omega (arith, h.0.nests)
args_nest (Both list dict) h = omega (arith, h.0.0.nests, h.1.0.nests)
