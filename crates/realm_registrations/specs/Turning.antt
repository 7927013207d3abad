-- A registration whose callees take turns is the same registration, with the same callees.
use Rattle.std.proofs.Common.{◌≡◌, ℕ, ◌==◌, Bool, true, false, ◌||◌, List, [], ◌∷◌, length, refl, sym, ◌∙◌, arith, lt-ltb}
use Rattle.std.proofs.lemmas.Bool.{cond_both}
use Rattle.realm_sessions.specs.Members.{has_member, has_members, rotated}
use Rattle.realm_groups.proofs.Joining.{joined_held, joined_member}
use Rattle.realm_registrations.specs.declared.registration.Registration.{Registration}
use Rattle.realm_registrations.specs.Registration.{takes_turns, turned}

pub turned_id : (r : Registration) → (turned r).id ≡ r.id
turned_id r = cond_both (takes_turns r.invoke) (record r { callees = rotated r.callees }) r (λ (t : Registration). t.id ≡ r.id) (λ _. refl) (λ _. refl)

pub turned_pattern : (r : Registration) → (turned r).pattern ≡ r.pattern
turned_pattern r =
    cond_both (takes_turns r.invoke) (record r { callees = rotated r.callees }) r (λ (t : Registration). t.pattern ≡ r.pattern) (λ _. refl) (λ _. refl)

rotated_member : (session : ℕ) (xs : List ℕ) → has_member session (rotated xs) ≡ has_member session xs
rotated_member session [] = refl
rotated_member session (x ∷ xs) = joined_member x session xs ∙ either (has_member session xs) (x == session)
  where
    either : (a b : Bool) → (a || b) ≡ (b || a)
    either true true = refl
    either true false = refl
    either false true = refl
    either false false = refl

rotated_held : (xs : List ℕ) → has_members (rotated xs) ≡ has_members xs
rotated_held [] = refl
rotated_held (x ∷ xs) = joined_held x xs ∙ sym (lt-ltb 0 (length (x ∷ xs)) (omega arith))

pub turned_member : (session : ℕ) (r : Registration) → has_member session (turned r).callees ≡ has_member session r.callees
turned_member session r =
    cond_both (takes_turns r.invoke) (record r { callees = rotated r.callees }) r
    (λ (t : Registration). has_member session t.callees ≡ has_member session r.callees) (λ _. rotated_member session r.callees) (λ _. refl)

pub turned_held : (r : Registration) → has_members (turned r).callees ≡ has_members r.callees
turned_held r =
    cond_both (takes_turns r.invoke) (record r { callees = rotated r.callees }) r
    (λ (t : Registration). has_members t.callees ≡ has_members r.callees) (λ _. rotated_held r.callees) (λ _. refl)
