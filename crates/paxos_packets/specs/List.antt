-- Lists are equal if their items are, item by item: the test is std's `pointwise`.
use Rattle.std.proofs.Common.{◌≡◌, Bool, true, List, [], ◌∷◌, refl}
use Rattle.std.proofs.lemmas.Bool.{and_parts, and_from}
use Rattle.std.specs.Cmp.Lexicographic.{pointwise}
use Rattle.paxos_packets.specs.Body.{IsEquality}

pub list_equality : {A : Type 0} (test : A → A → Bool) → IsEquality test → IsEquality (pointwise test)
list_equality {A} test ok = record { reflexive = all; sound = equal }
  where
    all : (xs : List A) → pointwise test xs xs ≡ true
    all [] = refl
    all (x ∷ xs) = and_from (test x x) (pointwise test xs xs) (ok.reflexive x) (all xs)

    equal : (xs ys : List A) → pointwise test xs ys ≡ true → xs ≡ ys
    equal [] [] h = refl
    equal [] (y ∷ ys) h = cc
    equal (x ∷ xs) [] h = cc
    equal (x ∷ xs) (y ∷ ys) h =
        let k = and_parts (test x y) (pointwise test xs ys) h in
        let p = ok.sound x y k.0 in
        let q = equal xs ys k.1 in
        λ i. p i ∷ q i
