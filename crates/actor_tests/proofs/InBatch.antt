-- Packets that a batch of one or of two has.
use Rattle.std.proofs.Common.{[], ◌∷◌, subst, ⊎_elim}
use Rattle.cluster_world.proofs.Lists.{has_cons, has_one}
use Rattle.cluster_world.specs.Has.{Has}

pub in_one : {A : Type 0} (P : A → Type 0) (x : A) → P x → (y : A) → Has (x ∷ []) y → P y
in_one P x px y h = subst P (has_one h) px

pub in_two : {A : Type 0} (P : A → Type 0) (x z : A) → P x → P z → (y : A) → Has (x ∷ z ∷ []) y → P y
in_two P x z px pz y h = ⊎_elim (λ e. subst P e px) (λ r. in_one P z pz y r) (has_cons h)
