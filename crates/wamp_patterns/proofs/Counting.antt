-- How many patterns of each kind there are, as patterns come and go.
use Rattle.std.proofs.Common.{◌≡◌, ℕ, ◌+◌, ◌-◌, Bool, true, false, cond, Some, None, unwrap_or, Ordering}
use Rattle.std.proofs.Common.{List, [], ◌∷◌, eqb, ltb, refl, ap, sym, ◌∙◌, arith, add-zero}
use Rattle.std.specs.declared.cmp.Ordering.TheVariants.{Less, Equal, Greater}
use Rattle.std.specs.Option.{IsSome}
use Rattle.std.specs.Ordering.{is_eq, match_ordering}
use Rattle.std.specs.List.{count_by}
use Rattle.std.specs.Map.{lookup, remove_entry, set_value}
use Rattle.std.proofs.lemmas.Cmp.{nat_list_cmp_total}
use Rattle.std.specs.BTreeMap.{insert_entry}
use Rattle.std.proofs.lemmas.Bool.Decides.{nat_tests}
use Rattle.std.proofs.lemmas.List.Sums.{sum_by-cons}
use Rattle.wamp_ids.specs.declared.policy.Match.{Match}
use Rattle.wamp_patterns.specs.Kinds.{Tells, count_of, how_many, kind, lowered, positive}
use Rattle.wamp_patterns.specs.Texts.{AreTextsInOrder, same_text, text_cmp}
use Rattle.wamp_patterns.proofs.Keyed.{lookup_put, lookup_removed, same_itself, same_turned, the_same, written_put}

-- each kind occurs as often as h says
abbrev pub Counts : List (List ℕ × ℕ) → (List ℕ → ℕ) → Type 0
Counts kinds h = (q : List ℕ) → lookup (same_text q) kinds ≡ positive (h q)

abbrev pub bit : Bool → ℕ
bit b = cond b 1 0

positive_more : (n : ℕ) → positive (n + 1) ≡ Some (n + 1)
positive_more n = ap (λ b. cond b None (Some (n + 1))) (no n)
  where
    no : (n : ℕ) → eqb (n + 1) 0 ≡ false
    no n = grind (arith, nat_tests)

unwrapped : (n : ℕ) → unwrap_or (positive n) 0 ≡ n
unwrapped n = go (eqb n 0) refl
  where
    zero_true : (n : ℕ) → eqb n 0 ≡ true → 0 ≡ n
    zero_true n h = grind (arith, nat_tests)

    go : (b : Bool) → eqb n 0 ≡ b → unwrap_or (cond b None (Some n)) 0 ≡ n
    go true e = zero_true n e
    go false e = refl

counted : (kinds : List (List ℕ × ℕ)) (h : List ℕ → ℕ) → Counts kinds h → (k : List ℕ) → count_of kinds k ≡ h k
counted kinds h c k = ap (λ o. unwrap_or o 0) (c k) ∙ unwrapped (h k)

pub raised : (kinds : List (List ℕ × ℕ)) (h : List ℕ → ℕ) (k : List ℕ) → Counts kinds h
    → Counts (insert_entry text_cmp kinds k (count_of kinds k + 1)) (λ q. h q + bit (same_text q k))
raised kinds h k c q = lookup_put kinds k (count_of kinds k + 1) q ∙ go (same_text q k) refl
  where
    go : (b : Bool) → same_text q k ≡ b → cond b (Some (count_of kinds k + 1)) (lookup (same_text q) kinds) ≡ positive (h q + bit b)
    go true e = ap (λ n. Some (n + 1)) (counted kinds h c k ∙ ap h (sym (the_same q k e))) ∙ sym (positive_more (h q))
    go false e = c q ∙ ap positive (sym (add-zero (h q)))

pub taken : (kinds : List (List ℕ × ℕ)) (h : List ℕ → ℕ) (k : List ℕ) → AreTextsInOrder kinds
    → Counts kinds (λ q. h q + bit (same_text q k)) → Counts (lowered kinds k) h
taken kinds h k s c = go (ltb 1 (count_of kinds k)) refl
  where
    here : count_of kinds k ≡ h k + 1
    here = counted kinds (λ q. h q + bit (same_text q k)) c k ∙ ap (λ b. h k + bit b) (same_itself k)

    other : (q : List ℕ) → same_text q k ≡ false → lookup (same_text q) kinds ≡ positive (h q)
    other q e = c q ∙ ap (λ b. positive (h q + bit b)) e ∙ ap positive (add-zero (h q))

    many : (a b : ℕ) → ltb 1 a ≡ true → a ≡ b + 1 → Some (a - 1) ≡ positive b
    many a b h e = ap (λ n. Some (n - 1)) e ∙ again b (ap (ltb 1) (sym e) ∙ h)
      where
        nonzero : (b : ℕ) → ltb 1 (b + 1) ≡ true → eqb b 0 ≡ false
        nonzero b h = grind (arith, nat_tests)

        less : (b : ℕ) → b + 1 - 1 ≡ b
        less b = omega arith

        again : (b : ℕ) → ltb 1 (b + 1) ≡ true → Some (b + 1 - 1) ≡ positive b
        again b h = ap Some (less b) ∙ sym (ap (λ t. cond t None (Some b)) (nonzero b h))

    one : (a b : ℕ) → ltb 1 a ≡ false → a ≡ b + 1 → None ≡ positive b
    one a b h e = sym (ap (λ t. cond t None (Some b)) (nothing b (ap (ltb 1) (sym e) ∙ h)))
      where
        nothing : (b : ℕ) → ltb 1 (b + 1) ≡ false → eqb b 0 ≡ true
        nothing b h = grind (arith, nat_tests)

    go : (b : Bool) → ltb 1 (count_of kinds k) ≡ b
        → Counts (cond b (insert_entry text_cmp kinds k (count_of kinds k - 1)) (remove_entry (same_text k) kinds)) h
    go true e q = lookup_put kinds k (count_of kinds k - 1) q ∙ at (same_text q k) refl
      where
        at : (b : Bool) → same_text q k ≡ b → cond b (Some (count_of kinds k - 1)) (lookup (same_text q) kinds) ≡ positive (h q)
        at true f = many (count_of kinds k) (h k) e here ∙ ap (λ x. positive (h x)) (sym (the_same q k f))
        at false f = other q f
    go false e q = lookup_removed kinds k q s ∙ at (same_text k q) refl
      where
        at : (b : Bool) → same_text k q ≡ b → cond b None (lookup (same_text q) kinds) ≡ positive (h q)
        at true f = one (count_of kinds k) (h k) e here ∙ ap (λ x. positive (h x)) (the_same k q f)
        at false f = other q (same_turned q k ∙ f)

-- ---- counting entries by their texts

module _ {V : Type 0} (p : List ℕ → Bool) where
  abbrev pub count : List (List ℕ × V) → ℕ
  count es = count_by (λ e. p e.0) es

  cons : (e : List ℕ × V) (es : List (List ℕ × V)) → count (e ∷ es) ≡ bit (p e.0) + count es
  cons e es = sum_by-cons (λ x. bit (p x.0)) e es

  pub count_added : (es : List (List ℕ × V)) (t : List ℕ) (v : V) → lookup (same_text t) es ≡ None
      → count (insert_entry text_cmp es t v) ≡ count es + bit (p t)
  count_added [] t v h = refl
  count_added (e ∷ es) t v h = go (text_cmp t e.0) h (λ k. count_added es t v k)
    where
      turn : (a b : ℕ) → a + b ≡ b + a
      turn a b = omega arith

      along : (a b c d : ℕ) → b ≡ c + d → a + b ≡ a + c + d
      along a b c d e = omega arith

      go : (o : Ordering) → cond (is_eq o) (Some e.1) (lookup (same_text t) es) ≡ None
          → (lookup (same_text t) es ≡ None → count (insert_entry text_cmp es t v) ≡ count es + bit (p t))
          → count (match_ordering o ((t, v) ∷ e ∷ es) ((e.0, v) ∷ es) (e ∷ insert_entry text_cmp es t v)) ≡ count (e ∷ es) + bit (p t)
      go Less h rest = cons (t, v) (e ∷ es) ∙ turn (bit (p t)) (count (e ∷ es))
      go Equal h rest = cc
      go Greater h rest =
          cons e (insert_entry text_cmp es t v)
          ∙ along (bit (p e.0)) (count (insert_entry text_cmp es t v)) (count es) (bit (p t)) (rest h)
          ∙ ap (λ n. n + bit (p t)) (sym (cons e es))

  pub count_written : (es : List (List ℕ × V)) (t : List ℕ) (v : V) → IsSome (lookup (same_text t) es) → AreTextsInOrder es
      → count (insert_entry text_cmp es t v) ≡ count es
  count_written es t v h s = ap count (sym (written_put nat_list_cmp_total t v es s h)) ∙ count_set es
    where
      count_set : (es : List (List ℕ × V)) → count (set_value (same_text t) es v) ≡ count es
      count_set [] = refl
      count_set (e ∷ es) = go (same_text t e.0) (count_set es)
        where
          go : (b : Bool) → count (set_value (same_text t) es v) ≡ count es
              → count (cond b ((e.0, v) ∷ es) (e ∷ set_value (same_text t) es v)) ≡ count (e ∷ es)
          go true h = refl
          go false h = cons e (set_value (same_text t) es v) ∙ ap (λ n. bit (p e.0) + n) h ∙ sym (cons e es)

  pub count_removed : (es : List (List ℕ × V)) (t : List ℕ) → IsSome (lookup (same_text t) es)
      → count es ≡ count (remove_entry (same_text t) es) + bit (p t)
  count_removed [] t h = cc
  count_removed (e ∷ es) t h = go (same_text t e.0) refl h (λ k. count_removed es t k)
    where
      along : (a b c d : ℕ) → b ≡ c + d → a + b ≡ a + c + d
      along a b c d e = omega arith

      turn : (a b : ℕ) → a + b ≡ b + a
      turn a b = omega arith

      go : (b : Bool) → same_text t e.0 ≡ b → IsSome (cond b (Some e.1) (lookup (same_text t) es))
          → (IsSome (lookup (same_text t) es) → count es ≡ count (remove_entry (same_text t) es) + bit (p t))
          → count (e ∷ es) ≡ count (cond b es (e ∷ remove_entry (same_text t) es)) + bit (p t)
      go true f h rest = cons e es ∙ turn (bit (p e.0)) (count es) ∙ ap (λ x. count es + bit (p x)) (sym (the_same t e.0 f))
      go false f h rest =
          cons e es
          ∙ along (bit (p e.0)) (count es) (count (remove_entry (same_text t) es)) (bit (p t)) (rest h)
          ∙ ap (λ n. n + bit (p t)) (sym (cons e (remove_entry (same_text t) es)))

-- ---- the kinds that an index counts

removed_none : {V : Type 0} (test : List ℕ → Bool) (es : List (List ℕ × V)) → lookup test es ≡ None → remove_entry test es ≡ es
removed_none test [] h = refl
removed_none test (e ∷ es) h = go (test e.0) h (λ k. removed_none test es k)
  where
    go : (b : Bool) → cond b (Some e.1) (lookup test es) ≡ None → (lookup test es ≡ None → remove_entry test es ≡ es)
        → cond b es (e ∷ remove_entry test es) ≡ e ∷ es
    go true h rest = cc
    go false h rest = ap (λ xs. e ∷ xs) (rest h)

module _ {V : Type 0} (m : Match) (texts : List (List ℕ × V)) (kinds : List (List ℕ × ℕ)) (t : List ℕ) (tells : Tells m texts kinds) where
  abbrev of_kind : List ℕ → List ℕ → Bool
  of_kind q x = same_text q (kind m x)

  pub tells_added : (k : List ℕ) (v : V) → k ≡ kind m t → lookup (same_text t) texts ≡ None
      → Tells m (insert_entry text_cmp texts t v) (insert_entry text_cmp kinds k (count_of kinds k + 1))
  tells_added k v e none q =
      raised kinds (how_many m texts) k tells q
      ∙ ap positive (ap (λ x. how_many m texts q + bit (same_text q x)) e ∙ sym (count_added (of_kind q) texts t v none))

  pub tells_back : (k : List ℕ) (new : List (List ℕ × ℕ)) → new ≡ insert_entry text_cmp kinds k (count_of kinds k + 1) → AreTextsInOrder new
      → Tells m texts (lowered new k)
  tells_back k new e s = taken new (how_many m texts) k s (λ q. ap (lookup (same_text q)) e ∙ raised kinds (how_many m texts) k tells q)

  pub tells_removed : (k : List ℕ) → k ≡ kind m t → IsSome (lookup (same_text t) texts) → AreTextsInOrder kinds
      → Tells m (remove_entry (same_text t) texts) (lowered kinds k)
  tells_removed k e some s = taken kinds (how_many m (remove_entry (same_text t) texts)) k s (λ q.
      tells q ∙ ap positive (count_removed (of_kind q) texts t some
      ∙ ap (λ x. how_many m (remove_entry (same_text t) texts) q + bit (same_text q x)) (sym e)))

  pub tells_kept : lookup (same_text t) texts ≡ None → Tells m (remove_entry (same_text t) texts) kinds
  tells_kept none q = tells q ∙ ap (λ ts. positive (how_many m ts q)) (sym (removed_none (same_text t) texts none))

  pub tells_written : (v : V) → IsSome (lookup (same_text t) texts) → AreTextsInOrder texts → Tells m (insert_entry text_cmp texts t v) kinds
  tells_written v some s q = tells q ∙ ap positive (sym (count_written (of_kind q) texts t v some s))
