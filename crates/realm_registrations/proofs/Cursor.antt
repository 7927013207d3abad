-- A list with a cursor, seen as the list that is rotated to it.
use Rattle.std.proofs.Common.{◌≡◌, ℕ, zero, suc, ◌+◌, ◌<◌, ◌≤◌, Bool, true, false, not, ◌==◌}
use Rattle.std.proofs.Common.{◌||◌, List, [], ◌∷◌, ◌++◌, length, take, drop}
use Rattle.std.proofs.Common.{refl, sym, ap, ◌∙◌, arith}
use Rattle.std.specs.List.{insert, list_any}
use Rattle.std.proofs.lemmas.List.{append_assoc, append-nil, length-append, take-append-drop, take_all}
use Rattle.std.proofs.lemmas.List.Elements.{filter-append}
use Rattle.std.proofs.lemmas.List.Folds.{list_any-append}
use Rattle.std.proofs.Math.Seq.{drop-append_seam, take-append_seam}
use Rattle.realm_sessions.specs.Members.{joined, others, rotated}
use Rattle.realm_registrations.specs.Callees.{seen}

turned_behind : (i : ℕ) (xs ys : List ℕ) → i < length xs
    → drop (suc i) xs ++ (ys ++ take (suc i) xs) ≡ rotated (drop i xs ++ (ys ++ take i xs))
turned_behind i [] ys within = absurd (omega arith)
turned_behind zero (x ∷ xs) ys within =
    ap (λ zs. xs ++ (zs ++ x ∷ [])) (sym (append-nil ys)) ∙ sym (append_assoc xs (ys ++ []) (x ∷ []))
turned_behind (suc i) (x ∷ xs) ys within =
    ap (λ zs. drop (suc i) xs ++ zs) (sym (append_assoc ys (x ∷ []) (take (suc i) xs)))
    ∙ turned_behind i xs (ys ++ x ∷ []) (omega arith)
    ∙ ap (λ zs. rotated (drop i xs ++ zs)) (append_assoc ys (x ∷ []) (take i xs))

pub seen_turned : (i : ℕ) (xs : List ℕ) → i < length xs → seen (i + 1) xs ≡ rotated (seen i xs)
seen_turned i xs within =
    let next : i + 1 ≡ suc i = omega arith in ap (λ n. seen n xs) next ∙ turned_behind i xs [] within

-- at the end it is seen as at the front
pub seen_round : (i : ℕ) (xs : List ℕ) → length xs ≤ i → seen i xs ≡ xs
seen_round i [] past = nothing i
  where
    nothing : (n : ℕ) → seen n [] ≡ []
    nothing zero = refl
    nothing (suc n) = refl
seen_round zero (x ∷ xs) past = absurd (omega arith)
seen_round (suc i) (x ∷ xs) past = ap (λ ys. ys ++ x ∷ take i xs) (none_left i xs (omega arith)) ∙ ap (λ ys. x ∷ ys) (take_all i xs (omega arith))
  where
    none_left : (n : ℕ) (ys : List ℕ) → length ys ≤ n → drop n ys ≡ []
    none_left zero [] l = refl
    none_left (suc n) [] l = refl
    none_left zero (y ∷ ys) l = absurd (omega arith)
    none_left (suc n) (y ∷ ys) l = none_left n ys (omega arith)

pub seen_front : (xs : List ℕ) → seen 0 xs ≡ xs
seen_front xs = append-nil xs

joined_behind : (i s : ℕ) (xs ys : List ℕ) → i ≤ length xs
    → drop (suc i) (insert xs i s) ++ (ys ++ take (suc i) (insert xs i s)) ≡ (drop i xs ++ (ys ++ take i xs)) ++ s ∷ []
joined_behind zero s [] ys within = ap (λ zs. zs ++ s ∷ []) (sym (append-nil ys))
joined_behind zero s (x ∷ xs) ys within =
    ap (λ zs. (x ∷ xs) ++ (zs ++ s ∷ [])) (sym (append-nil ys)) ∙ sym (append_assoc (x ∷ xs) (ys ++ []) (s ∷ []))
joined_behind (suc i) s [] ys within = absurd (omega arith)
joined_behind (suc i) s (x ∷ xs) ys within =
    ap (λ zs. drop (suc i) (insert xs i s) ++ zs) (sym (append_assoc ys (x ∷ []) (take (suc i) (insert xs i s))))
    ∙ joined_behind i s xs (ys ++ x ∷ []) (omega arith)
    ∙ ap (λ zs. (drop i xs ++ zs) ++ s ∷ []) (append_assoc ys (x ∷ []) (take i xs))

-- a session that is put before the cursor, which moves on, is seen as the last
pub seen_joined : (i s : ℕ) (xs : List ℕ) → i ≤ length xs → seen (i + 1) (insert xs i s) ≡ joined s (seen i xs)
seen_joined i s xs within =
    let next : i + 1 ≡ suc i = omega arith in ap (λ n. seen n (insert xs i s)) next ∙ joined_behind i s xs [] within

-- of those that stay the cursor has as many before it as stay of those before it
pub seen_left : (i s : ℕ) (xs : List ℕ) → seen (length (others s (take i xs))) (others s xs) ≡ others s (seen i xs)
seen_left i s xs =
    let front = others s (take i xs) in
    let rest = others s (drop i xs) in
    let whole : others s xs ≡ front ++ rest =
    ap (others s) (sym (take-append-drop i xs)) ∙ filter-append (λ m. not (m == s)) (take i xs) (drop i xs) in
    ap (seen (length front)) whole
    ∙ ap (λ ys. ys ++ take (length front) (front ++ rest)) (drop-append_seam front rest)
    ∙ ap (λ ys. rest ++ ys) (take-append_seam front rest)
    ∙ sym (filter-append (λ m. not (m == s)) (drop i xs) (take i xs))

pub seen_any : (p : ℕ → Bool) (i : ℕ) (xs : List ℕ) → list_any p (seen i xs) ≡ list_any p xs
seen_any p i xs =
    list_any-append p (drop i xs) (take i xs) ∙ either (list_any p (drop i xs)) (list_any p (take i xs))
    ∙ sym (list_any-append p (take i xs) (drop i xs)) ∙ ap (list_any p) (take-append-drop i xs)
  where
    either : (a b : Bool) → (a || b) ≡ (b || a)
    either true true = refl
    either true false = refl
    either false true = refl
    either false false = refl

pub seen_long : (i : ℕ) (xs : List ℕ) → length (seen i xs) ≡ length xs
seen_long i xs =
    let there : length (seen i xs) ≡ length (drop i xs) + length (take i xs) = length-append (drop i xs) (take i xs) in
    let back : length (take i xs ++ drop i xs) ≡ length (take i xs) + length (drop i xs) = length-append (take i xs) (drop i xs) in
    let whole : length (take i xs ++ drop i xs) ≡ length xs = ap (λ (ys : List ℕ). length ys) (take-append-drop i xs) in
    omega (arith, there, back, whole)

pub fewer_others : (i s : ℕ) (xs : List ℕ) → length (others s (take i xs)) ≤ length (others s xs)
fewer_others i s xs =
    let whole : others s xs ≡ others s (take i xs) ++ others s (drop i xs) =
    ap (others s) (sym (take-append-drop i xs)) ∙ filter-append (λ m. not (m == s)) (take i xs) (drop i xs) in
    let long : length (others s xs) ≡ length (others s (take i xs)) + length (others s (drop i xs)) =
    ap (λ (ys : List ℕ). length ys) whole ∙ length-append (others s (take i xs)) (others s (drop i xs)) in
    omega (arith, long)
