-- for private clauses: whether two values that have no floats are equal, by a walk over both
use Rattle.std.specs.Prelude.{Bool, true, false, ◌&&◌, ◌==◌, pos, negsuc, bytes_eq}
use Rattle.serde_json.specs.Data.{Num, unsigned, negative, Data, null, boolean, number, string, array, object, Items, no_items}
use Rattle.serde_json.specs.Data.{item, Members, no_members, member}

abbrev pub same_bool : Bool → Bool → Bool
same_bool true true = true
same_bool false false = true
same_bool a b = false

abbrev pub same_num : Num → Num → Bool
same_num (unsigned m) (unsigned n) = m == n
same_num (negative (pos m)) (negative (pos n)) = m == n
same_num (negative (negsuc m)) (negative (negsuc n)) = m == n
same_num a b = false

abbrev mutual
  pub same_data : Data → Data → Bool
  same_data null null = true
  same_data (boolean a) (boolean b) = same_bool a b
  same_data (number m) (number n) = same_num m n
  same_data (string s) (string t) = bytes_eq s t
  same_data (array ds) (array es) = same_items ds es
  same_data (object ms) (object ns) = same_members ms ns
  same_data d e = false

  pub same_items : Items → Items → Bool
  same_items no_items no_items = true
  same_items (item d ds) (item e es) = same_data d e && same_items ds es
  same_items ds es = false

  pub same_members : Members → Members → Bool
  same_members no_members no_members = true
  same_members (member k d ms) (member l e ns) = bytes_eq k l && (same_data d e && same_members ms ns)
  same_members ms ns = false
