-- The exchange that adds a table's name keeps the office's rule, and two marks with one number name one table.
use Rattle.std.proofs.Common.{◌≡◌, ℕ, zero, suc, ◌+◌, ◌<◌, ◌≤◌, ◌==◌, Bool, true, false, List, []}
use Rattle.std.proofs.Common.{◌∷◌, ◌++◌, length, refl, ap, sym, ◌∙◌, subst, arith, inl, length-append, append_assoc, None, Some}
use Rattle.std.proofs.lemmas.List.{append-nil}
use Rattle.std.proofs.lemmas.Bool.{eqb-true}
use Rattle.std.specs.Prelude.{slice_get}
use mathlib.Core.List.{IsPrefix}
use prog.Atomic.{either}
use Rattle.atomic_table.specs.Seated.{TableId}
use Rattle.logbook.specs.Pages.{Cell, cell, keeps, no_nib, step, Moves, Goes}
use Rattle.mail_table.specs.declared.name.Name.{Name}
use Rattle.mail_table.specs.Offices.{IsCounted, Adds, name_of}

abbrev pub shown : List Name → List Name
shown log = []

abbrev pub moved : List Name → List Name → ℕ → Type 0
moved xs ys n = Unit {0}

-- beginnings of one list

-- a beginning as long as the whole is the whole
prefix_whole : {A : Type 0} (xs ys : List A) → IsPrefix xs ys → length ys ≤ length xs → xs ≡ ys
prefix_whole [] [] p le = refl
prefix_whole [] (y ∷ ys) p le = absurd (omega arith)
prefix_whole (x ∷ xs) [] p le = absurd (cc (p.1))
prefix_whole (x ∷ xs) (y ∷ ys) p le = let rest = prefix_whole xs ys (p.0, cc (p.1)) (omega arith) in cc (p.1, rest)

pub prefix_length : {A : Type 0} (xs ys : List A) → IsPrefix xs ys → length xs ≤ length ys
prefix_length xs ys p = omega (arith, sym (ap length p.1) ∙ length-append xs p.0)

-- what is in a beginning is in the whole, at the same place
prefix_get : {A : Type 0} (xs ys : List A) (k : ℕ) (x : A) → IsPrefix xs ys → slice_get xs k ≡ Some x → slice_get ys k ≡ Some x
prefix_get [] ys k x p h = absurd cc
prefix_get (y ∷ xs) [] k x p h = absurd (cc (p.1))
prefix_get (y ∷ xs) (z ∷ ys) zero x p h = cc (p.1, h)
prefix_get (y ∷ xs) (z ∷ ys) (suc k) x p h = prefix_get xs ys k x (p.0, cc (p.1)) h

-- the last item
pub get_last : {A : Type 0} (xs : List A) (x : A) (k : ℕ) → k ≡ length xs → slice_get (xs ++ x ∷ []) k ≡ Some x
get_last [] x zero e = refl
get_last [] x (suc k) e = absurd (omega arith)
get_last (y ∷ xs) x zero e = absurd (omega arith)
get_last (y ∷ xs) x (suc k) e = get_last xs x k (omega arith)

adds_goes : (log v : List Name) (e : Name) (old : ℕ) → length v ≡ old → IsPrefix v log → (b : Bool) → (length log == old) ≡ b
    → Goes IsCounted shown moved 0 (v, (no_nib, None)) (λ n. either (n == old) (old + 1) n) (Adds (step 0 old (old + 1) e) (
      v,
      (
        no_nib,
        None,
      ),
    ))
    ((length log, true) ∷ (0, true) ∷ []) log
adds_goes log v e old len pre true is =
    let now : length log ≡ old = eqb-true (length log) old is in
    let same : v ≡ log = prefix_whole v log pre (omega arith) in
    let n : either (length log == old) (old + 1) (length log) ≡ length (log ++ e ∷ []) = rw is (omega (
      arith,
      length-append log (e ∷
          []),
    )) in (
      keeps,
      e ∷ [],
      None,
      tt,
      ap (λ (k : ℕ). (k, true) ∷ (0, true) ∷ []) n,
      inl (refl, refl),
      rw is (ap (λ w. w ++ e ∷ []) (sym same)),
    )
adds_goes log v e old len pre false is =
    let all : log ++ [] ≡ log = append-nil log in
    let n : either (length log == old) (old + 1) (length log) ≡ length (log ++ []) = rw is (ap length (sym all)) in (
      keeps,
      [],
      None,
      tt,
      ap (λ (k : ℕ). (k, true) ∷ (0, true) ∷ []) n,
      inl (refl, refl),
      rw is (ap length all),
    )

-- whatever the book is, the exchange adds the name to all that was seen, or finds that there are more
pub adds_moves : (v : List Name) (e : Name) (old : ℕ) → length v ≡ old
    → Moves IsCounted shown moved 0 (v, (no_nib, None)) (λ n. either (n == old) (old + 1) n) (Adds (step 0 old (old + 1) e) (
      v,
      (no_nib, None),
    ))
adds_moves v e old len cs log kept pre away =
    let P : List Cell → Type 0 = λ c. (0 < length c) × ((cell c 0).1 ≡ true)
    × Goes IsCounted shown moved 0 (v, (no_nib, None)) (λ n. either (n == old) (old + 1) n) (Adds (step 0 old (old + 1) e) (
      v,
      (
        no_nib,
        None,
      ),
    )) c log in
    subst P (sym kept) (omega arith, refl, adds_goes log v e old len pre (length log == old) refl)

some_one : {A : Type 0} (x y : A) → Some x ≡ Some y → x ≡ y
some_one x y e = cc

-- a name determines the table
name_tells : (s t : TableId) → name_of s ≡ name_of t → s ≡ t
name_tells s t e i =
    record {
      words = (e i).words;
      slots = (e i).slots;
      views_name = (e i).views_name;
      atom = (e i).atom;
      block = (e i).block;
      offset = (e i).offset;
      slot_names = (e i).slot_names;
    }

-- two logs that begin one name one table under one number
pub one_table : (xs ys all : List Name) (k : ℕ) (s t : TableId) → IsPrefix xs all → IsPrefix ys all → slice_get xs k ≡ Some (name_of s)
    → slice_get ys k ≡ Some (name_of t) → s ≡ t
one_table xs ys all k s t p q a b =
    name_tells s t (some_one (name_of s) (name_of t) (sym (prefix_get xs all k (name_of s) p a) ∙ prefix_get ys all k (name_of t) q b))
