-- Shapes of one number of components are next to each other, and those of another leave no text.
use Rattle.std.proofs.Common.{◌≡◌, ℕ, zero, suc, ◌+◌, Bool, true, false, cond, ◌&&◌, not, Some, None, List, [], ◌∷◌, ◌++◌}
use Rattle.std.proofs.Common.{drop, filter, replicate, refl, ap, ◌∙◌, arith}
use Rattle.std.specs.Ordering.{is_le, is_gt}
use Rattle.std.specs.Map.{keys_of}
use Rattle.wamp_ids.specs.declared.policy.Match.TheVariants.{Wildcard}
use Rattle.wamp_patterns.specs.Kinds.{all_found, components, first_found, first_of, found_text, is_shaped, masked, shape, with_text}
use Rattle.std.proofs.lemmas.List.{append_assoc}
use Rattle.wamp_patterns.specs.Texts.{text_cmp, texts_between}

pub forward : (n : ℕ) → is_gt (text_cmp (replicate n 1) (1 ∷ replicate n 1)) ≡ false
forward zero = refl
forward (suc n) = forward n

pub one_more : (n : ℕ) → replicate {A = ℕ} (n + 1) 1 ≡ replicate {A = ℕ} (suc n) 1
one_more n = next (n + 1) (suc n) (omega arith)
  where
    next : (m k : ℕ) → m ≡ k → replicate {A = ℕ} m 1 ≡ replicate {A = ℕ} k 1
    next m k e = ap (λ (x : ℕ). replicate {A = ℕ} x 1) e

pub goes_forward : (n : ℕ) (first last : List ℕ) → first ≡ replicate n 1 → last ≡ replicate (n + 1) 1 → is_gt (text_cmp first last) ≡ false
goes_forward n first last e f = (λ i. is_gt (text_cmp (e i) ((f ∙ one_more n) i))) ∙ forward n

pub shaped_by : (n : ℕ) (starts ends within : Bool) (first last k : List ℕ) → first ≡ replicate n 1 → last ≡ replicate (n + 1) 1
    → starts ≡ is_le (text_cmp first k) → ends ≡ is_le (text_cmp last k) → within ≡ (starts && not ends) → within ≡ is_shaped n k
shaped_by n starts ends within first last k e f g h w =
    w ∙ (λ i. g i && not (h i)) ∙ (λ i. is_le (text_cmp (e i) k) && not (is_le (text_cmp ((f ∙ one_more n) i) k)))

-- a shape is put together
pub together : (n : ℕ) (none ones some pushed all gaps : List ℕ) → none ≡ [] → ones ≡ replicate n 1 → some ≡ none ++ ones
    → pushed ≡ some ++ 0 ∷ [] → all ≡ pushed ++ gaps → all ≡ shape n gaps
together n none ones some pushed all gaps e f g h k =
    k ∙ (λ i. h i ++ gaps) ∙ (λ i. (g i ++ 0 ∷ []) ++ gaps) ∙ (λ i. ((e i ++ f i) ++ 0 ∷ []) ++ gaps)
    ∙ append_assoc (replicate n 1) (0 ∷ []) gaps

-- ---- where a shape is

pub shaped_own : (n : ℕ) (gaps : List ℕ) → is_shaped n (shape n gaps) ≡ true
shaped_own zero gaps = refl
shaped_own (suc n) gaps = shaped_own n gaps

some_behind : (n : ℕ) (gaps : List ℕ) → is_le (text_cmp [] (shape n gaps)) ≡ true
some_behind zero gaps = refl
some_behind (suc n) gaps = refl

pub shaped_same : (n m : ℕ) (gaps : List ℕ) → is_shaped n (shape m gaps) ≡ true → n ≡ m
shaped_same zero zero gaps h = refl
shaped_same zero (suc m) gaps h = off (is_le (text_cmp [] (shape m gaps))) (some_behind m gaps) h
  where
    off : (b : Bool) → b ≡ true → not b ≡ true → 0 ≡ suc m
    off true e h = cc
    off false e h = cc
shaped_same (suc n) zero gaps h = cc
shaped_same (suc n) (suc m) gaps h = ap suc (shaped_same n m gaps h)

pub gaps_behind : (n d : ℕ) (gaps : List ℕ) → d ≡ n + 1 → drop d (shape n gaps) ≡ gaps
gaps_behind n zero gaps e = absurd (omega arith)
gaps_behind zero (suc zero) gaps e = refl
gaps_behind zero (suc (suc d)) gaps e = absurd (omega arith)
gaps_behind (suc n) (suc d) gaps e = gaps_behind n d gaps (omega arith)

pub ordered_gaps : (n : ℕ) (gaps others : List ℕ) → text_cmp (shape n gaps) (shape n others) ≡ text_cmp gaps others
ordered_gaps zero gaps others = refl
ordered_gaps (suc n) gaps others = ordered_gaps n gaps others

-- ---- kinds of other numbers of components may be passed over

-- the kinds between these are those that are shaped so
pub are_shaped : (n : ℕ) (first last : List ℕ) → first ≡ replicate n 1 → last ≡ replicate (n + 1) 1 → (kinds : List (List ℕ × ℕ))
    → texts_between first last kinds ≡ filter (λ k. is_shaped n k.0) kinds
are_shaped n first last e f kinds = λ i. texts_between (e i) ((f ∙ one_more n) i) kinds

module _ {V : Type 0} (texts : List (List ℕ × V)) (u : List ℕ) where
  abbrev pub fitting : List (List ℕ × ℕ) → List (List ℕ × ℕ)
  fitting kinds = filter (λ k. is_shaped (components u) k.0) kinds

  pub first_fitting : (kinds : List (List ℕ × ℕ))
      → first_found Wildcard texts u (keys_of (fitting kinds)) ≡ first_found Wildcard texts u (keys_of kinds)
  first_fitting [] = refl
  first_fitting (k ∷ kinds) = go (is_shaped (components u) k.0) refl (first_fitting kinds)
    where
      text : List ℕ
      text = masked (drop (components u + 1) k.0) u

      go : (b : Bool) → is_shaped (components u) k.0 ≡ b
          → first_found Wildcard texts u (keys_of (fitting kinds)) ≡ first_found Wildcard texts u (keys_of kinds)
          → first_found Wildcard texts u (keys_of (cond b (k ∷ fitting kinds) (fitting kinds)))
          ≡ first_of (found_text Wildcard texts (cond b (Some text) None)) (first_found Wildcard texts u (keys_of kinds))
      go true e h =
          ap (λ c. first_of (found_text Wildcard texts (cond c (Some text) None)) (first_found Wildcard texts u (keys_of (fitting kinds)))) e
          ∙ ap (λ o. first_of (found_text Wildcard texts (Some text)) o) h
      go false e h = h

  pub all_fitting : (found : List (List ℕ × V)) (kinds : List (List ℕ × ℕ))
      → all_found Wildcard texts u found (keys_of (fitting kinds)) ≡ all_found Wildcard texts u found (keys_of kinds)
  all_fitting found [] = refl
  all_fitting found (k ∷ kinds) = go (is_shaped (components u) k.0) refl (λ f. all_fitting f kinds)
    where
      text : List ℕ
      text = masked (drop (components u + 1) k.0) u

      go : (b : Bool) → is_shaped (components u) k.0 ≡ b
          → ((f : List (List ℕ × V)) → all_found Wildcard texts u f (keys_of (fitting kinds)) ≡ all_found Wildcard texts u f (keys_of kinds))
          → all_found Wildcard texts u found (keys_of (cond b (k ∷ fitting kinds) (fitting kinds)))
          ≡ all_found Wildcard texts u (with_text Wildcard texts (cond b (Some text) None) found) (keys_of kinds)
      go true e h =
          ap (λ c. all_found Wildcard texts u (with_text Wildcard texts (cond c (Some text) None) found) (keys_of (fitting kinds))) e
          ∙ h (with_text Wildcard texts (Some text) found)
      go false e h = h found
