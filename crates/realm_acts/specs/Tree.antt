-- Equality of values of any type whose values a tree of numbers distinguishes: two are equal if their trees are.
use Rattle.std.proofs.Common.{◌≡◌, ℕ, Bool, true, false, ◌&&◌, eqb, eq-eqb, refl, ap, ap₂}
use Rattle.std.proofs.lemmas.Bool.{eqb-true, and_parts, and_from}
use Rattle.std.specs.Prelude.{◌==◌}
use base.Stored.{Gv, gnil, gnum, gcons, Coded}

abbrev pub same_tree : Gv → Gv → Bool
same_tree gnil gnil = true
same_tree (gnum m) (gnum n) = m == n
same_tree (gcons a b) (gcons c d) = same_tree a c && same_tree b d
same_tree _ _ = false

pub tree_itself : (a : Gv) → same_tree a a ≡ true
tree_itself gnil = refl
tree_itself (gnum n) = eq-eqb n n refl
tree_itself (gcons a b) = and_from (same_tree a a) (same_tree b b) (tree_itself a) (tree_itself b)

pub tree_is : (a b : Gv) → same_tree a b ≡ true → a ≡ b
tree_is gnil gnil h = refl
tree_is (gnum m) (gnum n) h = ap gnum (eqb-true m n h)
tree_is (gcons a b) (gcons c d) h =
    let k = and_parts (same_tree a c) (same_tree b d) h in ap₂ gcons (tree_is a c k.0) (tree_is b d k.1)
tree_is _ _ h = cc

-- whether two values are equal
unfoldable pub same_by : {A : Type 0} → Coded A → A → A → Bool
same_by coded x y = same_tree (coded.code x) (coded.code y)

pub by_itself : {A : Type 0} (coded : Coded A) (x : A) → same_by coded x x ≡ true
unfolding same_by
by_itself coded x = tree_itself (coded.code x)

pub by_is : {A : Type 0} (coded : Coded A) (x y : A) → same_by coded x y ≡ true → x ≡ y
unfolding same_by
by_is coded x y h = coded.inj x y (tree_is (coded.code x) (coded.code y) h)
