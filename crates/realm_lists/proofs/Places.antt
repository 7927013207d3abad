-- Places that rise: a member after the others, and what is above all.
use Rattle.std.proofs.Common.{◌≡◌, ℕ, ◌+◌, ◌<◌, ◌≤◌, List, [], ◌∷◌, ◌++◌, false, nat_cmp, is_lt, refl, ap, arith}
use Rattle.std.specs.List.{All}
use Rattle.std.specs.Cmp.{nat_cmp_is}
use Rattle.std.specs.declared.cmp.Ordering.TheVariants.{Greater}
use Rattle.std.specs.BTreeMap.{insert_entry}
use Rattle.std.specs.Map.{keys_of}
use Rattle.std.proofs.lemmas.List.Elements.{All-head, All-tail, All-nil, All-cons}
use Rattle.std.proofs.lemmas.Map.Keys.{ge_from_not_lt}
use Rattle.realm_lists.specs.OrderedList.{IsAbove}

pub put_last : {T : Type 0} → (rows : List (ℕ × T)) (place : ℕ) (member : T) → IsAbove place rows
    → insert_entry nat_cmp rows place member ≡ rows ++ (place, member) ∷ []
put_last [] place member above = refl
put_last {T} (row ∷ rows) place member above =
    let before : row.0 < place = All-head (λ (row : ℕ × T). row.0 < place) row rows above in
    rw (← nat_cmp_is place row.0 Greater before)
    (ap (λ (rest : List (ℕ × T)). row ∷ rest)
    (put_last rows place member (All-tail (λ (row : ℕ × T). row.0 < place) row rows above)))

-- no place is after the last one
pub above_last : {T : Type 0} → (rows : List (ℕ × T)) (last : ℕ) → All (λ place. is_lt (nat_cmp last place) ≡ false) (keys_of rows)
    → IsAbove (last + 1) rows
above_last [] last most = All-nil (λ row. row.0 < last + 1)
above_last {T} (row ∷ rows) last most =
    let Most : ℕ → Type 0 = λ place. is_lt (nat_cmp last place) ≡ false in
    let here : row.0 ≤ last = ge_from_not_lt last row.0 (All-head Most row.0 (keys_of rows) most) in
    All-cons (λ (row : ℕ × T). row.0 < last + 1) row rows (omega (arith, here))
    (above_last rows last (All-tail Most row.0 (keys_of rows) most))
