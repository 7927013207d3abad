-- Registrations of a list that are put in one after the other are those of the list.
use Rattle.std.proofs.Common.{◌≡◌, ℕ, zero, suc, ◌≤◌, nat_lt, Bool, true, false, not}
use Rattle.std.proofs.Common.{◌&&◌, ◌||◌, List, [], ◌∷◌, ◌++◌, length, Option, None, Some, Err}
use Rattle.std.proofs.Common.{option_map, refl, sym, ap, ◌∙◌, arith, if◌then◌else◌}
use Rattle.std.specs.List.{All, list_any}
use Rattle.std.proofs.lemmas.Bool.{lt-ltb}
use Rattle.realm_sessions.specs.Members.{has_member}
use Rattle.realm_sessions.specs.Apart.{has_two, put_all}
use Rattle.realm_sessions.proofs.Apart.{put_all_is}
use Rattle.realm_sessions.proofs.PutLinks.{any_none}
use Rattle.realm_groups.specs.Groups.{Listed, nothing}
use Rattle.realm_groups.specs.Restoring.{is_refused, put_at, are_damaged}
use Rattle.realm_groups.proofs.PutLists.{with_all, came, put_group_is, ended_is}
use Rattle.realm_registrations.specs.declared.registration.Registration.{Registration}
use Rattle.realm_registrations.specs.Registration.{has_callees, is_shared, with_callee}
use Rattle.realm_registrations.specs.Restoring.{id_of, pattern_of, callees_of, same_id, is_damaged, put_registration, put_whole}
use Rattle.realm_registrations.specs.Restoring.{registrations_of}
use Rattle.realm_registrations.specs.Registrations.{Registrations}
use Rattle.realm_sessions.specs.declared.fault.RestoreFault.{RestoreFault}
use Rattle.realm_sessions.specs.declared.fault.RestoreFault.TheVariants.{Damaged, Memory}
use Rattle.realm_sessions.specs.Restoring.{Becomes, Restores}

abbrev never : ℕ → Bool
never id = false

-- callees that join one after the other
joined_is : (r : Registration) (xs more : List ℕ)
    → with_all callees_of with_callee (record r { callees = xs }) more
    ≡ option_map (λ (ys : List ℕ). record r { callees = ys }) (put_all never same_id xs more)
joined_is r xs [] = refl
joined_is r xs (s ∷ rest) = step (has_member s xs) (joined_is r (xs ++ s ∷ []) rest)
  where
    step : (b : Bool)
        → with_all callees_of with_callee (record r { callees = xs ++ s ∷ [] }) rest
        ≡ option_map (λ (ys : List ℕ). record r { callees = ys }) (put_all never same_id (xs ++ s ∷ []) rest)
        → (if b then None else with_all callees_of with_callee (record r { callees = xs ++ s ∷ [] }) rest)
        ≡ option_map (λ (ys : List ℕ). record r { callees = ys }) (if b then None else put_all never same_id (xs ++ s ∷ []) rest)
    step true same = refl
    step false same = same

-- all callees, unless one comes twice
callees_are : (first : ℕ) (more : List ℕ)
    → put_all never same_id (first ∷ []) more ≡ (if has_two same_id (first ∷ more) then None else Some (first ∷ more))
callees_are first more =
    put_all_is never same_id (first ∷ []) more refl
    ∙ ap (λ b. if b || has_two same_id (first ∷ more) then None else Some (first ∷ more)) (any_none more)

few_again : (n : ℕ) → nat_lt 0 n ≡ nat_lt 1 (suc n)
few_again zero = refl
few_again (suc n) = lt-ltb 0 (suc n) (omega arith) ∙ sym (lt-ltb 1 (suc (suc n)) (omega arith))

-- a registration is put in, unless it is damaged or refused
abbrev Comes : Listed Registration → Registration → Type 0
Comes held x = put_registration held x
    ≡ (if is_damaged x || is_refused id_of pattern_of held x then None else Some (put_at id_of held x))

pick : {X Y Z : Type 0} (f : Y → Z) (g : X → Y) (x : X) (overfull refused twice : Bool)
    → ◌≡◌ {A = Option Z} (if overfull then None else (if refused then None else option_map f (option_map g (if twice then None else Some x))))
    (if (false || (overfull || twice)) || refused then None else Some (f (g x)))
pick f g x true refused twice = refl
pick f g x false true true = refl
pick f g x false true false = refl
pick f g x false false true = refl
pick f g x false false false = refl

first_put : (held : Listed Registration) (r : Registration) (first : ℕ) (more : List ℕ) → All (λ (g : Registration). g.id ≤ held.last) held.list
    → Comes held (record r { callees = first ∷ more })
first_put held r first more below =
    let x : Registration = record r { callees = first ∷ more } in
    let one : Registration = record r { callees = first ∷ [] } in
    let overfull = not (is_shared r.invoke) && nat_lt 0 (length more) in
    let refused = is_refused id_of pattern_of held x in
    let twice = has_two same_id (first ∷ more) in
    ap (λ (o : Option (Listed Registration)). if overfull then None else o)
    (put_group_is id_of pattern_of callees_of with_callee (λ s g. refl) held one more below
    ∙ ap (λ (o : Option Registration). if refused then None else option_map (came held.list r.id) o)
    (joined_is r (first ∷ []) more ∙ ap (option_map (λ (ys : List ℕ). record r { callees = ys })) (callees_are first more)))
    ∙ pick (came held.list r.id) (λ (ys : List ℕ). record r { callees = ys }) (first ∷ more) overfull refused twice
    ∙ ap (λ b. if (not b || (overfull || twice)) || refused then None else Some (put_at id_of held x))
    (sym (lt-ltb 0 (length (first ∷ more)) (omega arith)))
    ∙ ap (λ b. if (not (has_callees x) || ((not (is_shared r.invoke) && b) || twice)) || refused then None else Some (put_at id_of held x))
    (few_again (length more))

by_callees : (held : Listed Registration) (r : Registration) (callees : List ℕ) → All (λ (g : Registration). g.id ≤ held.last) held.list
    → Comes held (record r { callees = callees })
by_callees held r [] below = refl
by_callees held r (first ∷ more) below = first_put held r first more below

one_put : (held : Listed Registration) (r : Registration) → All (λ (g : Registration). g.id ≤ held.last) held.list → Comes held r
one_put held r below = by_callees held r r.callees below

-- ---- all registrations

abbrev pub held_as : ℕ → Listed Registration → Registrations
held_as limit held = record { limit = limit; list = held.list; last = held.last }

made_is : (limit : ℕ) (list : List Registration) (last : ℕ)
    → registrations_of limit list last ≡ option_map (held_as limit) (put_whole nothing list last)
made_is limit list last =
    step (are_damaged id_of pattern_of list last || list_any is_damaged list)
    ∙ ap (option_map (held_as limit)) (sym (ended_is id_of pattern_of is_damaged put_registration one_put list last))
  where
    step : (b : Bool) → (if b then None else Some (held_as limit (record { list = list; last = last })))
        ≡ option_map (held_as limit) (if b then None else Some (record { list = list; last = last }))
    step true = refl
    step false = refl

pub none_made : (fault : RestoreFault) (limit : ℕ) (list : List Registration) (last : ℕ) (new : Listed Registration)
    → Becomes (Err fault) new (put_whole nothing list last) → Restores (Err fault) (registrations_of limit list last)
none_made Damaged limit list last new h = made_is limit list last ∙ ap (option_map (held_as limit)) h
none_made Memory limit list last new h = tt

pub all_made : (limit : ℕ) (list : List Registration) (last : ℕ) (new : Listed Registration) → put_whole nothing list last ≡ Some new
    → registrations_of limit list last ≡ Some (held_as limit new)
all_made limit list last new h = made_is limit list last ∙ ap (option_map (held_as limit)) h
