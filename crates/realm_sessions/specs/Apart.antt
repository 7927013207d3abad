-- Lists whose members are put in one after the other, each unless it is faulty or clashes with one before it.
use Rattle.std.specs.Prelude.{Bool, false, ◌||◌, List, [], ◌∷◌, ◌++◌, Option, None, Some, if◌then◌else◌}
use Rattle.std.specs.List.{list_any}

-- a member clashes with one that comes after it
abbrev pub has_two : {T : Type 0} → (T → T → Bool) → List T → Bool
has_two clash [] = false
has_two clash (first ∷ rest) = list_any (clash first) rest || has_two clash rest

-- it may not come after these
abbrev pub is_refused : {T : Type 0} → (T → Bool) → (T → T → Bool) → List T → T → Bool
is_refused faulty clash held next = faulty next || list_any (λ member. clash member next) held

-- those that are held, and then these; none if one of these is refused
abbrev pub put_all : {T : Type 0} → (T → Bool) → (T → T → Bool) → List T → List T → Option (List T)
put_all faulty clash held [] = Some held
put_all faulty clash held (next ∷ rest) =
    if is_refused faulty clash held next then None else put_all faulty clash (held ++ next ∷ []) rest

-- a list of which no member is faulty, and no two clash
abbrev pub checked : {T : Type 0} → (T → Bool) → (T → T → Bool) → List T → Option (List T)
checked faulty clash list = if list_any faulty list || has_two clash list then None else Some list
