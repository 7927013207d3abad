-- Tests that are equality of values.
use Rattle.std.proofs.Common.{◌≡◌, ℕ, Bool, true, ◌&&◌, eqb, eq-eqb, refl}
use Rattle.std.proofs.lemmas.Bool.{eqb-true, and_parts}

-- a test that holds of equal values and of no others
pub record IsEquality {A : Type 0} (test : A → A → Bool) : Type 0 where
  pub reflexive : (x : A) → test x x ≡ true
  pub sound : (x y : A) → test x y ≡ true → x ≡ y

pub number_same : (n : ℕ) → eqb n n ≡ true
number_same n = eq-eqb n n refl

-- both parts of a test that holds and begins with two numbers
pub numbers_joined : (m n : ℕ) (b : Bool) → eqb m n && b ≡ true → (m ≡ n) × (b ≡ true)
numbers_joined m n b h = let k = and_parts (eqb m n) b h in (eqb-true m n k.0, k.1)
