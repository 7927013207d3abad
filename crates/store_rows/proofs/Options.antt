-- The parts of an Option.
use Rattle.std.proofs.Common.{◌≡◌, Option, Some, None, refl}
use Rattle.std.specs.Prelude.{option_map, option_and_then}

pub and_then_is : {A C : Type 0} (f : A → Option C) (o : Option A) (y : C) → option_and_then f o ≡ Some y → (x : A) × (o ≡ Some x) × (f x ≡ Some y)
and_then_is f None y h = absurd cc
and_then_is f (Some x) y h = (x, refl, h)

pub map_is : {A C : Type 0} (f : A → C) (o : Option A) (y : C) → option_map f o ≡ Some y → (x : A) × (o ≡ Some x) × (f x ≡ y)
map_is f None y h = absurd cc
map_is f (Some x) y h = (x, refl, cc)
