-- What the calls over groups of callees leave is what registrations are defined to be left as.
use Rattle.std.proofs.Common.{◌≡◌, ℕ, ◌==◌, Bool, true, false, not, cond, List, []}
use Rattle.std.proofs.Common.{◌∷◌, map, filter, find, Option, None, Some, refl, sym, ap, ◌∙◌}
use Rattle.std.specs.List.{All, list_any}
use Rattle.std.proofs.lemmas.Bool.{cond-true, cond-false, or_parts}
use Rattle.std.proofs.lemmas.List.Elements.{All-head, All-tail}
use Rattle.realm_sessions.specs.Members.{has_member, others}
use Rattle.realm_groups.specs.Groups as groups
use Rattle.realm_registrations.specs.declared.registration.Registration.{Registration}
use Rattle.realm_registrations.specs.Registration.{has_callee, has_callees, without_callee}
use Rattle.realm_registrations.specs.Registrations.{change_first, found_callee}

abbrev callees_of : Registration → List ℕ
callees_of r = r.callees

pub found_same : (session : ℕ) (o : Option Registration) → groups.found_session callees_of session o ≡ found_callee session o
found_same session None = refl
found_same session (Some r) = refl

pub same_change : (test : Registration → Bool) (change : Registration → Registration) (list : List Registration)
    → groups.change_first test (λ r. Some (change r)) list ≡ change_first test change list
same_change test change [] = refl
same_change test change (x ∷ xs) =
    ap (λ (rest : List Registration). cond (test x) (change x ∷ xs) (x ∷ rest)) (same_change test change xs)

others_all : (session : ℕ) (xs : List ℕ) → has_member session xs ≡ false → others session xs ≡ xs
others_all session [] none = refl
others_all session (x ∷ xs) none =
    let parts = or_parts (x == session) (list_any (λ m. m == session) xs) none in
    cond-true (not (x == session)) (x ∷ others session xs) (others session xs) (ap not parts.0)
    ∙ ap (λ (ys : List ℕ). x ∷ ys) (others_all session xs parts.1)

kept_all : (list : List Registration) → All (λ (r : Registration). has_callees r ≡ true) list → filter has_callees list ≡ list
kept_all [] held = refl
kept_all (x ∷ xs) held =
    let Held : Registration → Type 0 = λ r. has_callees r ≡ true in
    cond-true (has_callees x) (x ∷ filter has_callees xs) (filter has_callees xs) (All-head Held x xs held)
    ∙ ap (λ (ys : List Registration). x ∷ ys) (kept_all xs (All-tail Held x xs held))

abbrev gone : ℕ → Registration → Option Registration
gone session r = groups.departed callees_of without_callee session r

put_held : (x : Registration) (xs ys : List Registration) (b : Bool) → xs ≡ ys
    → groups.put_first (cond b (Some x) None) xs ≡ cond b (x ∷ ys) ys
put_held x xs ys true same = ap (λ (zs : List Registration). x ∷ zs) same
put_held x xs ys false same = same

left_step : (session : ℕ) (x : Registration) (xs more rest : List Registration) (b : Bool) → (b ≡ true → has_callee session x ≡ true)
    → has_callees x ≡ true → filter has_callees xs ≡ xs → (b ≡ false → more ≡ filter has_callees rest)
    → cond b (groups.put_first (gone session x) xs) (x ∷ more) ≡ filter has_callees (cond b (without_callee session x ∷ xs) (x ∷ rest))
left_step session x xs more rest true here held all same =
    ap (λ o. groups.put_first o xs)
    (cond-true (has_callee session x) (groups.if_held callees_of (without_callee session x)) (Some x) (here refl))
    ∙ put_held (without_callee session x) xs (filter has_callees xs) (has_callees (without_callee session x)) (sym all)
left_step session x xs more rest false here held all same =
    ap (λ (ys : List Registration). x ∷ ys) (same refl)
    ∙ sym (cond-true (has_callees x) (x ∷ filter has_callees rest) (filter has_callees rest) held)

-- the session leaves the first that passes the test, of which it is a callee
pub left_same : (session : ℕ) (test : Registration → Bool) (list : List Registration)
    → All (λ (r : Registration). has_callees r ≡ true) list → found_callee session (find test list) ≡ true
    → groups.change_first test (gone session) list ≡ filter has_callees (change_first test (without_callee session) list)
left_same session test [] held found = refl
left_same session test (x ∷ xs) held found =
    let Held : Registration → Type 0 = λ r. has_callees r ≡ true in
    left_step session x xs (groups.change_first test (gone session) xs) (change_first test (without_callee session) xs) (test x)
    (λ h. sym (ap (found_callee session) (cond-true (test x) (Some x) (find test xs) h)) ∙ found)
    (All-head Held x xs held) (kept_all xs (All-tail Held x xs held))
    (λ h. left_same session test xs (All-tail Held x xs held)
    (sym (ap (found_callee session) (cond-false (test x) (Some x) (find test xs) h)) ∙ found))

each_step : (session : ℕ) (x : Registration) (more rest : List Registration) (b : Bool) → has_callee session x ≡ b → has_callees x ≡ true
    → more ≡ rest
    → groups.put_first (cond b (groups.if_held callees_of (without_callee session x)) (Some x)) more
    ≡ cond (has_callees (without_callee session x)) (without_callee session x ∷ rest) rest
each_step session x more rest true on held same = put_held (without_callee session x) more rest (has_callees (without_callee session x)) same
each_step session x more rest false off held same =
    let stays : without_callee session x ≡ x =
    ap (λ (callees : List ℕ). record x { callees = callees }) (others_all session x.callees off) in
    ap (λ (ys : List Registration). x ∷ ys) same
    ∙ sym (ap (λ (r : Registration). cond (has_callees r) (r ∷ rest) rest) stays
    ∙ cond-true (has_callees x) (x ∷ rest) rest held)

-- the session leaves all of them
pub each_same : (session : ℕ) (list : List Registration) → All (λ (r : Registration). has_callees r ≡ true) list
    → groups.each (gone session) list ≡ filter has_callees (map (without_callee session) list)
each_same session [] held = refl
each_same session (x ∷ xs) held =
    let Held : Registration → Type 0 = λ r. has_callees r ≡ true in
    each_step session x (groups.each (gone session) xs) (filter has_callees (map (without_callee session) xs)) (has_callee session x) refl
    (All-head Held x xs held) (each_same session xs (All-tail Held x xs held))
