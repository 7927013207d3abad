-- Sets of ids: one that is written as it was, and two that have the same ids.
use Rattle.std.proofs.Common.{◌≡◌, ℕ, nat_cmp, Bool, true, false, cond, List, [], ◌∷◌}
use Rattle.std.proofs.Common.{None, Some, Result, Ok, Err, OnErr, ap, sym, ◌∙◌}
use Rattle.std.specs.List.Sorted.{IsStrictlySortedBy}
use Rattle.std.specs.Map.{lookup, set_value}

pub none_rising : IsStrictlySortedBy nat_cmp []
unfolding IsStrictlySortedBy
none_rising = tt

none_some : {X : Type 0} {x : X} → None ≡ Some x → ⊥
none_some h = cc

same_some : {X : Type 0} {x y : X} → Some x ≡ Some y → x ≡ y
same_some h = cc

same_step : {X : Type 0} (test : ℕ → Bool) (e : ℕ × X) (es : List (ℕ × X)) (w : X) (b : Bool)
    → cond b (Some e.1) (lookup test es) ≡ Some w → (lookup test es ≡ Some w → set_value test es w ≡ es)
    → cond b ((e.0, w) ∷ es) (e ∷ set_value test es w) ≡ e ∷ es
same_step {X} test e es w true is rest = ap (λ (x : X). (e.0, x) ∷ es) (sym (same_some is))
same_step {X} test e es w false is rest = ap (λ (xs : List (ℕ × X)). e ∷ xs) (rest is)

pub set_same : {X : Type 0} (test : ℕ → Bool) (es : List (ℕ × X)) (w : X) → lookup test es ≡ Some w → set_value test es w ≡ es
set_same test [] w is = absurd (none_some is)
set_same test (e ∷ es) w is = same_step test e es w (test e.0) is (set_same test es w)

pub back_same : {A E X : Type 0} (result : Result A E) (test : ℕ → Bool) (es after : List (ℕ × X)) (old new : X)
    → lookup test es ≡ Some old → after ≡ set_value test es new → OnErr result (new ≡ old) → OnErr result (after ≡ es)
back_same (Ok x) test es after old new is written h = tt
back_same (Err e) test es after old new is written h = written ∙ ap (set_value test es) h ∙ set_same test es old is
