-- One pass with the best so far finds the one that no other beats.
use Rattle.std.proofs.Common.{◌≡◌, ℕ, zero, suc, Bool, true, false, not, cond, ◌||◌, Option, Some, None, is_some, List, [], ◌∷◌, refl}
use Rattle.std.proofs.Common.{ap, sym, ◌∙◌}
use Rattle.std.specs.List.{AllByRecursion, find, filter, fold, list_any, slice_get}

skipped : (a b : Bool) → (a ≡ true → b ≡ true) → (a || b) ≡ b
skipped true b h = sym (h refl)
skipped false b h = refl

skipped_second : (a b c : Bool) → (b ≡ true → a ≡ true) → (a || (b || c)) ≡ (a || c)
skipped_second true b c h = refl
skipped_second false true c h = cc (h refl)
skipped_second false false c h = refl

or_first : (a b : Bool) → a ≡ true → (a || b) ≡ true
or_first a b h = ap (λ c. c || b) h

or_second : (a b : Bool) → b ≡ true → (a || b) ≡ true
or_second true b h = refl
or_second false b h = h

either : {P : Type 0} (b : Bool) → (b ≡ true → P) → (b ≡ false → P) → P
either true f g = f refl
either false f g = g refl

module _ {X : Type 0} (beats : X → X → Bool) where
  abbrev pub is_free : List X → X → Bool
  is_free xs x = not (list_any (λ y. beats y x) xs)

  abbrev pub first_free : List X → Option X
  first_free xs = find (is_free xs) xs

  abbrev pub pick : Option X → X → Option X
  pick None x = Some x
  pick (Some best) x = cond (beats x best) (Some x) (Some best)

  found_alike : (p q : X → Bool) (xs : List X) → ((x : X) → p x ≡ q x) → find p xs ≡ find q xs
  found_alike p q xs h = λ i. find (λ x. h x i) xs

  any_alike : (p q : X → Bool) (xs : List X) → ((x : X) → p x ≡ q x) → list_any p xs ≡ list_any q xs
  any_alike p q xs h = λ i. list_any (λ x. h x i) xs

  module _ (P : X → Type 0) (itself : (x : X) → beats x x ≡ false)
      (through : (x y z : X) → beats x y ≡ true → beats y z ≡ true → beats x z ≡ true)
      (tied : (x y : X) → P x → P y → beats x y ≡ false → beats y x ≡ false → (z : X) → (beats x z ≡ beats y z) × (beats z x ≡ beats z y)) where
    -- a better one comes: what it is better than is not looked at any more
    replaced : (b x : X) (rest : List X) → beats x b ≡ true → first_free (b ∷ x ∷ rest) ≡ first_free (x ∷ rest)
    replaced b x rest h =
        ap (λ c. cond (not c) (Some b) (find (is_free (b ∷ x ∷ rest)) (x ∷ rest))) (or_second (beats b b) _ (or_first (beats x b) _ h))
        ∙ found_alike (is_free (b ∷ x ∷ rest)) (is_free (x ∷ rest)) (x ∷ rest)
        (λ y. ap not (skipped (beats b y) (list_any (λ z. beats z y) (x ∷ rest)) (λ k. or_first (beats x y) _ (through x b y h k))))

    -- what beats the best so far beats what was not better
    beaten_too : (b x : X) (rest : List X) → P b → P x → beats x b ≡ false → list_any (λ y. beats y b) rest ≡ true
        → list_any (λ y. beats y x) (b ∷ x ∷ rest) ≡ true
    beaten_too b x rest pb px h any = either (beats b x)
        (λ k. or_first (beats b x) _ k)
        (λ k. or_second (beats b x) _ (or_second (beats x x) _
        (any_alike (λ y. beats y x) (λ y. beats y b) rest (λ y. (tied x b px pb h k y).1) ∙ any)))

    passed_over : (b x : X) (rest : List X) → P b → P x → beats x b ≡ false → (y : X) → is_free (b ∷ x ∷ rest) y ≡ is_free (b ∷ rest) y
    passed_over b x rest pb px h y = ap not (skipped_second (beats b y) (beats x y) (list_any (λ z. beats z y) rest) (λ k. either (beats b x)
        (λ l. through b x y l k)
        (λ l. sym ((tied x b px pb h l y).0) ∙ k)))

    kept : (b x : X) (rest : List X) → P b → P x → beats x b ≡ false → first_free (b ∷ x ∷ rest) ≡ first_free (b ∷ rest)
    kept b x rest pb px h = either (list_any (λ y. beats y b) rest)
        (λ any.
        ap (λ c. cond (not c) (Some b) (find (is_free (b ∷ x ∷ rest)) (x ∷ rest))) (or_second (beats b b) _ (or_second (beats x b) _ any))
        ∙ ap (λ c. cond (not c) (Some x) (find (is_free (b ∷ x ∷ rest)) rest)) (beaten_too b x rest pb px h any)
        ∙ found_alike (is_free (b ∷ x ∷ rest)) (is_free (b ∷ rest)) rest (passed_over b x rest pb px h)
        ∙ sym (ap (λ c. cond (not c) (Some b) (find (is_free (b ∷ rest)) rest)) (or_second (beats b b) _ any)))
        (λ none.
        ap (λ c. cond (not c) (Some b) (find (is_free (b ∷ x ∷ rest)) (x ∷ rest)))
        (no_one (beats b b) _ (itself b) (no_one (beats x b) _ h none))
        ∙ sym (ap (λ c. cond (not c) (Some b) (find (is_free (b ∷ rest)) rest)) (no_one (beats b b) _ (itself b) none)))
      where
        no_one : (a c : Bool) → a ≡ false → c ≡ false → (a || c) ≡ false
        no_one a c p q = ap (λ d. d || c) p ∙ q

    from_one : (b : X) (xs : List X) → P b → AllByRecursion P xs → fold pick (Some b) xs ≡ first_free (b ∷ xs)
    from_one b [] pb all = sym (ap (λ c. cond (not (c || false)) (Some b) None) (itself b))
    from_one b (x ∷ rest) pb all = either (beats x b)
        (λ h. ap (λ c. fold pick (cond c (Some x) (Some b)) rest) h ∙ from_one x rest all.0 all.1 ∙ sym (replaced b x rest h))
        (λ h. ap (λ c. fold pick (cond c (Some x) (Some b)) rest) h ∙ from_one b rest pb all.1 ∙ sym (kept b x rest pb all.0 h))

    pub one_pass : (xs : List X) → AllByRecursion P xs → fold pick None xs ≡ first_free xs
    one_pass [] all = refl
    one_pass (x ∷ xs) all = from_one x xs all.0 all.1

  -- the best so far stays one
  still_some : (b : X) (xs : List X) → is_some (fold pick (Some b) xs) ≡ true
  still_some b [] = refl
  still_some b (x ∷ xs) = go (beats x b) (still_some x xs) (still_some b xs)
    where
      go : (c : Bool) → is_some (fold pick (Some x) xs) ≡ true → is_some (fold pick (Some b) xs) ≡ true
          → is_some (fold pick (cond c (Some x) (Some b)) xs) ≡ true
      go true h k = h
      go false h k = k

  pub some_picked : (test : X → Bool) (xs : List X) → is_some (fold pick None (filter test xs)) ≡ list_any test xs
  some_picked test [] = refl
  some_picked test (x ∷ xs) = go (test x) (some_picked test xs)
    where
      go : (c : Bool) → is_some (fold pick None (filter test xs)) ≡ list_any test xs
          → is_some (fold pick None (cond c (x ∷ filter test xs) (filter test xs))) ≡ (c || list_any test xs)
      go true h = still_some x (filter test xs)
      go false h = h

  -- none of the list beats what is free in it
  pub not_beaten : (x y : X) (xs : List X) (i : ℕ) → is_free xs x ≡ true → slice_get xs i ≡ Some y → beats y x ≡ false
  not_beaten x y xs i h at = go (list_any (λ z. beats z x) xs) refl
    where
      none_at : (zs : List X) (k : ℕ) → list_any (λ z. beats z x) zs ≡ false → slice_get zs k ≡ Some y → beats y x ≡ false
      none_at [] k n e = cc
      none_at (z ∷ zs) zero n e = first (beats z x) n (ap (λ o. beats_of o) e)
        where
          beats_of : Option X → Bool
          beats_of None = false
          beats_of (Some w) = beats w x

          first : (a : Bool) → (a || list_any (λ w. beats w x) zs) ≡ false → a ≡ beats y x → beats y x ≡ false
          first true m d = cc
          first false m d = sym d
      none_at (z ∷ zs) (suc k) n e = none_at zs k (second (beats z x) n) e
        where
          second : (a : Bool) → (a || list_any (λ w. beats w x) zs) ≡ false → list_any (λ w. beats w x) zs ≡ false
          second true m = cc
          second false m = m

      go : (a : Bool) → list_any (λ z. beats z x) xs ≡ a → beats y x ≡ false
      go true e = cc (ap not e)
      go false e = none_at xs i e at

pub all_filtered : {X : Type 0} (test : X → Bool) (xs : List X) → AllByRecursion (λ x. test x ≡ true) (filter test xs)
all_filtered test [] = tt
all_filtered test (x ∷ xs) = go (test x) refl (all_filtered test xs)
  where
    go : (c : Bool) → test x ≡ c → AllByRecursion (λ y. test y ≡ true) (filter test xs)
        → AllByRecursion (λ y. test y ≡ true) (cond c (x ∷ filter test xs) (filter test xs))
    go true e all = (e, all)
    go false e all = all
