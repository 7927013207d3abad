-- A row that is put into a tree in which its rowid is free.
use Rattle.std.proofs.Common.{◌≡◌, ◌⊎◌, inl, inr, ⊎_elim, ℕ, ℤ, pos, Bool, true, false, not, ◌||◌, ◌&&◌, cond, List, [], ◌∷◌, map, None, eqb, refl, ap, sym, ◌∙◌, subst, arith, Ordering, Less, Equal, Greater, is_eq, filter}
use Rattle.std.specs.Ordering.{match_ordering}
use Rattle.std.specs.List.{AllByRecursion, IsDistinct}
use Rattle.std.proofs.lemmas.Bool.Decides.{nat_tests}
use Rattle.std.proofs.lemmas.Int.{ints}
use Rattle.sqlite_value.specs.declared.value.Value.TheVariants.{Int}
use Rattle.sqlite_value.specs.Order.{Row, column, value_cmp}
use Rattle.sqlite_value.specs.Keys.{first_key, plain}
use Rattle.sqlite_value.proofs.OrderLemmas.{value_cmp-Int}
use Rattle.sqlite_trees.specs.Tree.{rowid, put_row, has_rowid, without_rowid}
use Rattle.sqlite_sql.specs.Ops.{binary}
use Rattle.sqlite_schema.specs.declared.schema.Table.{Table}
use Rattle.sqlite_schema.specs.Rules.{equal}
use Rattle.sqlite_rules.specs.Lists.{Has}
use Rattle.sqlite_rules.specs.Keys.{AreConflicts, conflicts}
use Rattle.sqlite_rules.specs.Calls.{ids_of}
use Rattle.sqlite_rules.specs.Edit.{is_taken, without_all}
use Rattle.acceptor_store.specs.Statements.{key_of}

or_parts : (b c : Bool) → b || c ≡ false → (b ≡ false) × (c ≡ false)
or_parts true c h = absurd cc
or_parts false c h = (refl, h)

-- the elements of a tree after a row was put

pub has_row_new : (n : Row) (rows : List Row) → Has (put_row n rows) n
has_row_new n [] = inl refl
has_row_new n (r ∷ rs) = go (value_cmp (rowid r) (rowid n)) (has_row_new n rs)
  where
    go : (o : Ordering) → Has (put_row n rs) n → Has (match_ordering o (r ∷ put_row n rs) (n ∷ rs) (n ∷ r ∷ rs)) n
    go Less h = inr h
    go Equal h = inl refl
    go Greater h = inl refl

pub has_row : (n : Row) (rows : List Row) (x : Row) → is_taken rows n ≡ false → Has rows x → Has (put_row n rows) x
has_row n [] x free h = absurd h
has_row n (r ∷ rs) x free h = go (value_cmp (rowid r) (rowid n)) (or_parts _ _ free) h (λ f k. has_row n rs x f k)
  where
    go : (o : Ordering) → (is_eq o ≡ false) × (is_taken rs n ≡ false) → Has (r ∷ rs) x → (is_taken rs n ≡ false → Has rs x → Has (put_row n rs) x)
        → Has (match_ordering o (r ∷ put_row n rs) (n ∷ rs) (n ∷ r ∷ rs)) x
    go Less f (inl e) more = inl e
    go Less f (inr k) more = inr (more f.1 k)
    go Equal f h more = absurd (let e = f.0 in cc)
    go Greater f h more = inr h

pub has_row_old : (n : Row) (rows : List Row) (x : Row) → Has (put_row n rows) x → (x ≡ n) ⊎ Has rows x
has_row_old n [] x (inl e) = inl e
has_row_old n [] x (inr none) = absurd none
has_row_old n (r ∷ rs) x h = go (value_cmp (rowid r) (rowid n)) h (has_row_old n rs x)
  where
    go : (o : Ordering) → Has (match_ordering o (r ∷ put_row n rs) (n ∷ rs) (n ∷ r ∷ rs)) x → (Has (put_row n rs) x → (x ≡ n) ⊎ Has rs x)
        → (x ≡ n) ⊎ Has (r ∷ rs) x
    go Less (inl e) more = inr (inl e)
    go Less (inr k) more = ⊎_elim (λ e. inl e) (λ j. inr (inr j)) (more k)
    go Equal (inl e) more = inl e
    go Equal (inr k) more = inr (inr k)
    go Greater (inl e) more = inl e
    go Greater (inr k) more = inr k

pub not_taken : (rows : List Row) (n x : Row) → is_taken rows n ≡ false → Has rows x → is_eq (value_cmp (rowid x) (rowid n)) ≡ false
not_taken [] n x free none = absurd none
not_taken (r ∷ rs) n x free (inl e) = subst (λ (y : Row). is_eq (value_cmp (rowid y) (rowid n)) ≡ false) (sym e) (or_parts _ _ free).0
not_taken (r ∷ rs) n x free (inr k) = not_taken rs n x (or_parts _ _ free).1 k

-- those of a tree without some rowids

pub has_filtered : {A : Type 0} (p : A → Bool) (rows : List A) (x : A) → Has (filter p rows) x → Has rows x × (p x ≡ true)
has_filtered p [] x h = absurd h
has_filtered {A} p (r ∷ rs) x h = go (p r) refl h (has_filtered p rs x)
  where
    go : (b : Bool) → p r ≡ b → Has (cond b (r ∷ filter p rs) (filter p rs)) x → (Has (filter p rs) x → Has rs x × (p x ≡ true)) → Has (r ∷ rs) x × (p x ≡ true)
    go true e (inl same) more = (inl same, ap p same ∙ e)
    go true e (inr k) more = let m = more k in (inr m.0, m.1)
    go false e k more = let m = more k in (inr m.0, m.1)

pub filter_keeps : {A : Type 0} (p : A → Bool) (rows : List A) (x : A) → Has rows x → p x ≡ true → Has (filter p rows) x
filter_keeps p [] x h t = absurd h
filter_keeps {A} p (r ∷ rs) x h t = go (p r) refl h (λ k. filter_keeps p rs x k t)
  where
    go : (b : Bool) → p r ≡ b → Has (r ∷ rs) x → (Has rs x → Has (filter p rs) x) → Has (cond b (r ∷ filter p rs) (filter p rs)) x
    go true e (inl same) more = inl same
    go true e (inr k) more = inr (more k)
    go false e (inl same) more = absurd (let f = sym t ∙ ap p same ∙ e in cc)
    go false e (inr k) more = more k

pub has_left : (ids : List ℤ) (rows : List Row) (x : Row) → Has (without_all rows ids) x → Has rows x
has_left [] rows x h = h
has_left (i ∷ ids) rows x h = (has_filtered _ rows x (has_left ids (without_rowid i rows) x h)).0

pub left_has : (ids : List ℤ) (rows : List Row) (x : Row) → Has rows x → AllByRecursion (λ i. has_rowid i x ≡ false) ids → Has (without_all rows ids) x
left_has [] rows x h apart = h
left_has (i ∷ ids) rows x h apart = left_has ids (without_rowid i rows) x (filter_keeps _ rows x h (ap not apart.0)) apart.1

all_filtered : (k : ℕ) (p : Row → Bool) (rows : List Row) → AllByRecursion (λ m. eqb k m ≡ false) (map key_of rows)
    → AllByRecursion (λ m. eqb k m ≡ false) (map key_of (filter p rows))
all_filtered k p [] h = tt
all_filtered k p (r ∷ rs) h = go (p r) (all_filtered k p rs h.1)
  where
    go : (b : Bool) → AllByRecursion (λ m. eqb k m ≡ false) (map key_of (filter p rs))
        → AllByRecursion (λ m. eqb k m ≡ false) (map key_of (cond b (r ∷ filter p rs) (filter p rs)))
    go true more = (h.0, more)
    go false more = more

pub once_filtered : (p : Row → Bool) (rows : List Row) → IsDistinct (λ m n. eqb m n) (map key_of rows) → IsDistinct (λ m n. eqb m n) (map key_of (filter p rows))
unfolding IsDistinct
once_filtered p [] h = tt
once_filtered p (r ∷ rs) h = go (p r) (once_filtered p rs h.1)
  where
    go : (b : Bool) → IsDistinct (λ m n. eqb m n) (map key_of (filter p rs)) → IsDistinct (λ m n. eqb m n) (map key_of (cond b (r ∷ filter p rs) (filter p rs)))
    go true more = (all_filtered (key_of r) p rs h.0, more)
    go false more = more

pub once_left : (ids : List ℤ) (rows : List Row) → IsDistinct (λ m n. eqb m n) (map key_of rows) → IsDistinct (λ m n. eqb m n) (map key_of (without_all rows ids))
once_left [] rows h = h
once_left (i ∷ ids) rows h = once_left ids (without_rowid i rows) (once_filtered _ rows h)

eqb_flip : (m n : ℕ) → eqb m n ≡ false → eqb n m ≡ false
eqb_flip m n h = grind (arith, nat_tests)

all_put : (k : ℕ) (n : Row) (rows : List Row) → eqb k (key_of n) ≡ false → AllByRecursion (λ m. eqb k m ≡ false) (map key_of rows)
    → AllByRecursion (λ m. eqb k m ≡ false) (map key_of (put_row n rows))
all_put k n [] e h = (e, tt)
all_put k n (r ∷ rs) e h = go (value_cmp (rowid r) (rowid n)) (all_put k n rs e h.1)
  where
    go : (o : Ordering) → AllByRecursion (λ m. eqb k m ≡ false) (map key_of (put_row n rs))
        → AllByRecursion (λ m. eqb k m ≡ false) (map key_of (match_ordering o (r ∷ put_row n rs) (n ∷ rs) (n ∷ r ∷ rs)))
    go Less more = (h.0, more)
    go Equal more = (e, h.1)
    go Greater more = (e, h)

pub once_put : (n : Row) (rows : List Row) → AllByRecursion (λ m. eqb (key_of n) m ≡ false) (map key_of rows) → IsDistinct (λ m n. eqb m n) (map key_of rows)
    → IsDistinct (λ m n. eqb m n) (map key_of (put_row n rows))
unfolding IsDistinct
once_put n [] free h = (tt, tt)
once_put n (r ∷ rs) free h = go (value_cmp (rowid r) (rowid n)) (once_put n rs free.1 h.1)
  where
    go : (o : Ordering) → IsDistinct (λ m n. eqb m n) (map key_of (put_row n rs))
        → IsDistinct (λ m n. eqb m n) (map key_of (match_ordering o (r ∷ put_row n rs) (n ∷ rs) (n ∷ r ∷ rs)))
    go Less more = (all_put (key_of r) n rs (eqb_flip (key_of n) (key_of r) free.0) h.0, more)
    go Equal more = (free.1, h.1)
    go Greater more = (free, h)

-- rowids that are natural numbers

pub number_cmp : (m n : ℕ) → is_eq (value_cmp (Int (pos m)) (Int (pos n))) ≡ eqb m n
number_cmp m n = rw (value_cmp-Int (pos m) (pos n)) (grind (arith, ints, nat_tests))

equal_numbers : (m n : ℕ) → equal (first_key plain).collation (Int (pos m)) (Int (pos n)) ≡ true → m ≡ n
unfolding binary first_key
equal_numbers m n h = let k = rw (value_cmp-Int (pos m) (pos n)) at h in grind (arith, ints, nat_tests)

and_first : (b c : Bool) → b && c ≡ true → b ≡ true
and_first true c h = refl
and_first false c h = absurd cc

or_none : (b : Bool) → b || false ≡ true → b ≡ true
or_none true h = refl
or_none false h = absurd cc

-- a row conflicts by its rowid alone, if there is no index
pub conflict_number : (t : Table) (n r : Row) (m k : ℕ) → rowid r ≡ Int (pos m) → rowid n ≡ Int (pos k) → conflicts None [] t n r ≡ true → m ≡ k
conflict_number t n r m k is new h =
    let agrees : equal (first_key plain).collation (column r 0) (column n 0) ≡ true = and_first _ _ (or_none _ h) in
    equal_numbers m k (rw (is, new) at agrees)

-- the rowids of the rows that conflict
pub conflict_ids : (t : Table) (n : Row) (rows found : List Row) (k : ℕ) → ((x : Row) → Has rows x → (m : ℕ) × (rowid x ≡ Int (pos m))) → rowid n ≡ Int (pos k)
    → AreConflicts None [] t rows n found → AllByRecursion (λ i. i ≡ pos k) (ids_of found)
conflict_ids t n rows found k numbered new it = ids found it.sound
  where
    ids : (found : List Row) → ((x : Row) → Has found x → (r : Row) × Has rows r × (conflicts None [] t n r ≡ true) × (x ≡ rowid r ∷ [])) → AllByRecursion (λ i. i ≡ pos k) (ids_of found)
    ids [] sound = tt
    ids (x ∷ more) sound =
        let s = sound x (inl refl) in
        let m = numbered s.0 s.1 in
        let same : m.0 ≡ k = conflict_number t n s.0 m.0 k m.1 new s.2 in
        (rw (s.3, m.1, same) refl, ids more (λ y h. sound y (inr h)))
