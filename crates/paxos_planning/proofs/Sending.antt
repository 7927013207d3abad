-- A loop that sends: with the rest's packets, what is there is what was there with all of them.
use Rattle.std.proofs.Common.{◌≡◌, ℕ, max, arith, ◌+◌, ◌<◌, Bool, true, false, not, List, [], ◌∷◌, ◌++◌, map, filter, length, get_or, drop, cond, ap, sym, ◌∙◌}
use Rattle.std.proofs.lemmas.List.{append_assoc, append-nil, at_drop_more}

-- the rest of a list begins with what is read
pub rest_read : {X Y : Type 0} (F : List X → Y) (xs : List X) (i : ℕ) (x : X) → i < length xs → x ≡ get_or xs i x
    → F (drop i xs) ≡ F (x ∷ drop (i + 1) xs)
rest_read F xs i x l e = at_drop_more F xs i x l ∙ ap (λ z. F (z ∷ drop (i + 1) xs)) (sym e)

-- one is put after what is there
pub pushed : {C : Type 0} (there kept new : List C) (x y : C) → new ≡ kept ++ x ∷ [] → kept ≡ there → x ≡ y → new ≡ there ++ y ∷ []
pushed there kept new x y p q r = p ∙ (λ i. q i ++ r i ∷ [])

-- more is put after it, and the end

module _ {C : Type 0} (there now all : List C) (h : there ++ now ≡ all) where
  pub sent_on : (then sent rest : List C) → then ≡ there ++ sent → now ≡ sent ++ rest → then ++ rest ≡ all
  sent_on then sent rest p q = ap (λ l. l ++ rest) p ∙ append_assoc there sent rest ∙ ap (λ l. there ++ l) (sym q) ∙ h

  pub sent_all : now ≡ [] → there ≡ all
  sent_all e = sym (append-nil there) ∙ ap (λ l. there ++ l) (sym e) ∙ h

-- what does not pass a test, one element on

module _ {A C : Type 0} (f : A → C) (test : A → Bool) (x : A) (xs : List A) where
  pub left_in : false ≡ test x → map f (filter (λ k. not (test k)) (x ∷ xs)) ≡ f x ∷ map f (filter (λ k. not (test k)) xs)
  left_in e =
      ap (λ b. map f (cond (not b) (x ∷ filter (λ k. not (test k)) xs) (filter (λ k. not (test k)) xs))) (sym e)

  pub left_out : true ≡ test x → map f (filter (λ k. not (test k)) (x ∷ xs)) ≡ map f (filter (λ k. not (test k)) xs)
  left_out e =
      ap (λ b. map f (cond (not b) (x ∷ filter (λ k. not (test k)) xs) (filter (λ k. not (test k)) xs))) (sym e)

-- the greatest of all, one element on

swap : (v r w : ℕ) → max (max v r) w ≡ max r (max v w)
swap v r w = omega arith

none : (r : ℕ) → max r 0 ≡ r
none r = omega arith

module _ (round now all : ℕ) (h : max round now ≡ all) where
  pub greatest_on : (then v rest : ℕ) → then ≡ max v round → now ≡ max v rest → max then rest ≡ all
  greatest_on then v rest p q = ap (λ n. max n rest) p ∙ swap v round rest ∙ ap (λ n. max round n) (sym q) ∙ h

  pub greatest_all : now ≡ 0 → round ≡ all
  greatest_all e = sym (none round) ∙ ap (λ n. max round n) (sym e) ∙ h
