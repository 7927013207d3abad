-- A list whose members are put in one after the other is put in whole exactly if none is faulty and no two clash.
use Rattle.std.proofs.Common.{◌≡◌, Bool, true, false, ◌||◌, List, [], ◌∷◌, ◌++◌, Option, None, Some, refl, sym, ap, ◌∙◌, if◌then◌else◌}
use Rattle.std.specs.List.{list_any}
use Rattle.std.proofs.lemmas.Bool.{or_parts, or_from, or_left, or_right, cond-true, cond-false}
use Rattle.std.proofs.lemmas.List.{append_assoc, append-nil}
use Rattle.std.proofs.lemmas.List.Folds.{list_any-append}
use Rattle.realm_sessions.specs.Apart.{has_two, is_refused, put_all, checked}

or_none : (a : Bool) → (a || false) ≡ a
or_none true = refl
or_none false = refl

pub or_between : (a b c d : Bool) → ((a || b) || (c || d)) ≡ ((a || c) || (b || d))
or_between true b c d = refl
or_between false true true d = refl
or_between false true false d = refl
or_between false false c d = refl

-- one more member
pub any_last : {T : Type 0} (test : T → Bool) (xs : List T) (x : T) → list_any test (xs ++ x ∷ []) ≡ (list_any test xs || test x)
any_last test xs x = list_any-append test xs (x ∷ []) ∙ ap (λ b. list_any test xs || b) (or_none (test x))

two_last : {T : Type 0} (clash : T → T → Bool) (xs : List T) (x : T)
    → has_two clash (xs ++ x ∷ []) ≡ (has_two clash xs || list_any (λ member. clash member x) xs)
two_last clash [] x = refl
two_last clash (y ∷ ys) x =
    ap (λ b. b || has_two clash (ys ++ x ∷ [])) (any_last (clash y) ys x)
    ∙ ap (λ b. (list_any (clash y) ys || clash y x) || b) (two_last clash ys x)
    ∙ or_between (list_any (clash y) ys) (clash y x) (has_two clash ys) (list_any (λ member. clash member x) ys)

-- two that clash clash in each longer list
two_more : {T : Type 0} (clash : T → T → Bool) (xs ys : List T) → has_two clash xs ≡ true → has_two clash (xs ++ ys) ≡ true
two_more clash [] ys h = cc
two_more {T} clash (x ∷ xs) ys h = either (list_any (clash x) xs) refl h (λ rest. two_more clash xs ys rest)
  where
    either : (b : Bool) → list_any (clash x) xs ≡ b → (b || has_two clash xs) ≡ true
        → (has_two clash xs ≡ true → has_two clash (xs ++ ys) ≡ true)
        → (list_any (clash x) (xs ++ ys) || has_two clash (xs ++ ys)) ≡ true
    either true is h rest =
        or_left (list_any (clash x) (xs ++ ys)) (has_two clash (xs ++ ys)) (list_any-append (clash x) xs ys ∙ or_left (list_any (clash x) xs)
        (list_any (clash x) ys) is)
    either false is h rest = or_right (list_any (clash x) (xs ++ ys)) (has_two clash (xs ++ ys)) (rest h)

module _ {T : Type 0} (faulty : T → Bool) (clash : T → T → Bool) where
  -- what becomes of those that are held and of these
  abbrev Goes : List T → List T → Type 0
  Goes held list = put_all faulty clash held list
      ≡ (if list_any faulty list || has_two clash (held ++ list) then None else Some (held ++ list))

  refused : (held rest : List T) (next : T) → is_refused faulty clash held next ≡ true
      → (list_any faulty (next ∷ rest) || has_two clash (held ++ next ∷ rest)) ≡ true
  refused held rest next h = either (faulty next) refl h
    where
      either : (b : Bool) → faulty next ≡ b → (b || list_any (λ member. clash member next) held) ≡ true
          → ((faulty next || list_any faulty rest) || has_two clash (held ++ next ∷ rest)) ≡ true
      either true is h =
          or_left (faulty next || list_any faulty rest) (has_two clash (held ++ next ∷ rest)) (or_left (faulty next) (list_any faulty rest) is)
      either false is h =
          or_right (faulty next || list_any faulty rest) (has_two clash (held ++ next ∷ rest))
          (ap (has_two clash) (sym (append_assoc held (next ∷ []) rest))
          ∙ two_more clash (held ++ next ∷ []) rest (two_last clash held next
          ∙ or_right (has_two clash held) (list_any (λ member. clash member next) held) h))

  pub put_all_is : (held list : List T) → has_two clash held ≡ false → Goes held list
  put_all_is held [] apart =
      sym (cond-false (has_two clash (held ++ [])) None (Some (held ++ [])) (ap (has_two clash) (append-nil held) ∙ apart)
      ∙ ap (λ (l : List T). Some l) (append-nil held))
  put_all_is held (next ∷ rest) apart = step (is_refused faulty clash held next) refl (put_all_is (held ++ next ∷ []) rest)
    where
      step : (b : Bool) → is_refused faulty clash held next ≡ b → (has_two clash (held ++ next ∷ []) ≡ false → Goes (held ++ next ∷ []) rest)
          → (if b then None else put_all faulty clash (held ++ next ∷ []) rest)
          ≡ (if list_any faulty (next ∷ rest) || has_two clash (held ++ next ∷ rest) then None else Some (held ++ next ∷ rest))
      step true is more = sym (cond-true (list_any faulty (next ∷ rest) || has_two clash (held ++ next ∷ rest)) None (Some (held ++ next ∷ rest))
          (refused held rest next is))
      step false is more =
          let parts = or_parts (faulty next) (list_any (λ member. clash member next) held) is in
          let whole : (held ++ next ∷ []) ++ rest ≡ held ++ next ∷ rest = append_assoc held (next ∷ []) rest in
          more (two_last clash held next ∙ or_from (has_two clash held) (list_any (λ member. clash member next) held) apart parts.1)
          ∙ ap (λ (l : List T). if list_any faulty rest || has_two clash l then None else Some l) whole
          ∙ ap (λ b. if (b || list_any faulty rest) || has_two clash (held ++ next ∷ rest) then None else Some (held ++ next ∷ rest)) (sym parts.0)

  -- from nothing on
  pub put_checked : (list : List T) → put_all faulty clash [] list ≡ checked faulty clash list
  put_checked list = put_all_is [] list refl
