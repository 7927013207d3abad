-- If the walk over two values finds no difference they are equal, and if they are equal, and plain, it finds none.
use Rattle.std.proofs.Common.{◌≡◌, pos, negsuc, Bool, true, false, refl, ap, ap₂, subst, eq-eqb}
use Rattle.std.specs.Prelude.{◌↔◌, ◌&&◌}
use Rattle.std.proofs.lemmas.Bool.{and_parts}
use Rattle.std.proofs.lemmas.Bool.Decides.{Decides-eqb}
use Rattle.std.proofs.lemmas.Slice.Eq.{bytes_eq-Decides}
use Rattle.serde_json.specs.Data.{Num, unsigned, negative, float, Data, null, boolean, number, string, array, object, Items}
use Rattle.serde_json.specs.Data.{no_items, item, Members, no_members, member}
use Rattle.wamp_values.specs.Equal.{same_bool, same_num, same_data, same_items, same_members}
use Rattle.wamp_values.specs.Payload.{IsHeld, IsPlain, ItemsArePlain, MembersArePlain}

bool_is : (a b : Bool) → same_bool a b ≡ true → a ≡ b
bool_is true true h = refl
bool_is false false h = refl
bool_is true false h = cc
bool_is false true h = cc

num_is : (m n : Num) → same_num m n ≡ true → m ≡ n
num_is (unsigned m) (unsigned n) h = ap unsigned ((Decides-eqb m n).0 h)
num_is (negative (pos m)) (negative (pos n)) h = ap (λ k. negative (pos k)) ((Decides-eqb m n).0 h)
num_is (negative (negsuc m)) (negative (negsuc n)) h = ap (λ k. negative (negsuc k)) ((Decides-eqb m n).0 h)
num_is m n h = cc

mutual
  data_is : (d e : Data) → same_data d e ≡ true → d ≡ e
  data_is null null h = refl
  data_is (boolean a) (boolean b) h = ap boolean (bool_is a b h)
  data_is (number m) (number n) h = ap number (num_is m n h)
  data_is (string s) (string t) h = ap string ((bytes_eq-Decides s t).0 h)
  data_is (array ds) (array es) h = ap array (items_are ds es h)
  data_is (object ms) (object ns) h = ap object (members_are ms ns h)
  data_is d e h = cc

  items_are : (ds es : Items) → same_items ds es ≡ true → ds ≡ es
  items_are no_items no_items h = refl
  items_are (item d ds) (item e es) h = let p = and_parts (same_data d e) _ h in ap₂ item (data_is d e p.0) (items_are ds es p.1)
  items_are ds es h = cc

  members_are : (ms ns : Members) → same_members ms ns ≡ true → ms ≡ ns
  members_are no_members no_members h = refl
  members_are (member k d ms) (member l e ns) h =
      let p = and_parts _ (same_data d e && same_members ms ns) h in
      let q = and_parts (same_data d e) _ p.1 in
      let key = (bytes_eq-Decides k l).0 p.0 in
      let value = data_is d e q.0 in
      let rest = members_are ms ns q.1 in
      λ i. member (key i) (value i) (rest i)
  members_are ms ns h = cc

bool_itself : (b : Bool) → same_bool b b ≡ true
bool_itself true = refl
bool_itself false = refl

num_itself : (n : Num) → IsHeld n → same_num n n ≡ true
num_itself (unsigned n) h = eq-eqb n n refl
num_itself (negative (pos n)) h = absurd h
num_itself (negative (negsuc n)) h = eq-eqb n n refl
num_itself (float x) h = absurd h

mutual
  data_itself : (d : Data) → IsPlain d → same_data d d ≡ true
  data_itself null h = refl
  data_itself (boolean b) h = bool_itself b
  data_itself (number n) h = num_itself n h
  data_itself (string s) h = (bytes_eq-Decides s s).1 refl
  data_itself (array ds) h = items_themselves ds h
  data_itself (object ms) h = members_themselves ms h.1

  items_themselves : (ds : Items) → ItemsArePlain ds → same_items ds ds ≡ true
  items_themselves no_items h = refl
  items_themselves (item d ds) h = rw (data_itself d h.0) (items_themselves ds h.1)

  members_themselves : (ms : Members) → MembersArePlain ms → same_members ms ms ≡ true
  members_themselves no_members h = refl
  members_themselves (member k d ms) h = rw ((bytes_eq-Decides k k).1 refl) (rw (data_itself d h.0) (members_themselves ms h.1))

pub same_decides : (d e : Data) → IsPlain d → same_data d e ≡ true ↔ (d ≡ e)
same_decides d e h = (data_is d e, λ p. subst (λ x. same_data d x ≡ true) p (data_itself d h))
