-- Members go on being found by their sessions as one joins and one leaves.
use Rattle.std.proofs.Common.{◌≡◌, ℕ, Bool, true, false, ◌||◌, cond, List}
use Rattle.std.proofs.Common.{[], ◌∷◌, ◌++◌, Option, None, Some, nat_cmp, nat_eq, is_some, if◌then◌else◌}
use Rattle.std.proofs.Common.{refl, sym, ap, ◌∙◌, subst}
use Rattle.std.specs.List.{list_any}
use Rattle.std.specs.BTreeMap.{is_at}
use Rattle.std.proofs.lemmas.Bool.{eqb-true, false≢true}
use Rattle.realm_sessions.specs.Members.{has_member, joined, others}
use Rattle.realm_lists.specs.OrderedList.{IsAbove, member_at, members, without}
use Rattle.realm_lists.specs.Finding.{AreRising, IsIndex, is_passing}
use Rattle.realm_lists.proofs.Finding.{any_is_find, kept_all}
use Rattle.realm_lists.proofs.Members.{members_pushed}
use Rattle.realm_lists.proofs.Telling.{index_back, index_came, index_gone}
use Rattle.realm_lists.proofs.Told.{told_none, told_without}
use Rattle.realm_subscriptions.specs.Subscribers.{is_session, place_of}

either_or : (a b : Bool) → b ≡ true → (a || b) ≡ true
either_or true b h = refl
either_or false b h = h

passes : (test : ℕ → Bool) (o : Option ℕ) → is_passing test o ≡ true → (x : ℕ) × (o ≡ Some x) × (test x ≡ true)
passes test None h = absurd (false≢true h)
passes test (Some x) h = (x, refl, h)

there_step : (test : ℕ → Bool) (row : ℕ × ℕ) (rest : Bool) (o : Option ℕ) (b : Bool) → is_passing test (cond b (Some row.1) o) ≡ true
    → (is_passing test o ≡ true → rest ≡ true) → (test row.1 || rest) ≡ true
there_step test row rest o true h more = ap (λ b. b || rest) h
there_step test row rest o false h more = either_or (test row.1) rest (more h)

there : (test : ℕ → Bool) (place : ℕ) (rows : List (ℕ × ℕ)) → is_passing test (member_at place rows) ≡ true → list_any test (members rows) ≡ true
there test place [] h = absurd (false≢true h)
there test place (row ∷ rows) h =
    there_step test row (list_any test (members rows)) (member_at place rows) (is_at (nat_cmp place) row.0) h (there test place rows)

abbrev pub Indexed : List (ℕ × ℕ) → List (ℕ × ℕ) → Type 0
Indexed places rows = IsIndex is_session (place_of places) rows

-- a session is a member exactly if it has a place
pub member_is : (places rows : List (ℕ × ℕ)) (session : ℕ) → Indexed places rows
    → is_some (place_of places session) ≡ has_member session (members rows)
member_is places rows session ok = go (place_of places session) refl
  where
    go : (o : Option ℕ) → place_of places session ≡ o → is_some o ≡ has_member session (members rows)
    go None is =
        sym (any_is_find (is_session session) (members rows)
        ∙ ap is_some (told_none (is_session session) (place_of places session) rows is (ok.found session)))
    go (Some place) is = sym (there (is_session session) place rows (ok.told session place is))

-- a session joins
pub joined_index : (places after rows : List (ℕ × ℕ)) (place session : ℕ) → IsAbove place rows → has_member session (members rows) ≡ false
    → ((other : ℕ) → place_of after other ≡ (if nat_eq session other then Some place else place_of places other))
    → Indexed places rows → Indexed after (rows ++ (place, session) ∷ [])
joined_index places after rows place session above none put ok =
    index_came nat_eq eqb-true is_session (place_of places) (place_of after) rows place session session (λ other. refl) above none put ok

pub joined_back : (places between after rows : List (ℕ × ℕ)) (place session : ℕ) → has_member session (members rows) ≡ false
    → ((other : ℕ) → place_of between other ≡ (if nat_eq session other then Some place else place_of places other))
    → ((other : ℕ) → place_of after other ≡ (if nat_eq session other then None else place_of between other))
    → Indexed places rows → Indexed after rows
joined_back places between after rows place session none put removed ok =
    index_back nat_eq eqb-true is_session (place_of places) (place_of between) (place_of after) rows place session none put removed ok

pub joined_list : (rows : List (ℕ × ℕ)) (place session : ℕ) → members (rows ++ (place, session) ∷ []) ≡ joined session (members rows)
joined_list rows place session = members_pushed rows place session

-- a session leaves
pub left_none : (places rows : List (ℕ × ℕ)) (session : ℕ) → place_of places session ≡ None → Indexed places rows
    → others session (members rows) ≡ members rows
left_none places rows session is ok =
    kept_all (is_session session) rows (told_none (is_session session) (place_of places session) rows is (ok.found session))

pub left_list : (places rows : List (ℕ × ℕ)) (session place : ℕ) → AreRising rows → place_of places session ≡ Some place → Indexed places rows
    → others session (members rows) ≡ members (without place rows)
left_list places rows session place rising is ok =
    let it = passes (is_session session) (member_at place rows) (ok.told session place is) in
    told_without (is_session session) (place_of places session) rows place it.0 rising is (ok.found session) it.1 it.2

pub left_index : (places after rows : List (ℕ × ℕ)) (session place : ℕ) → AreRising rows → place_of places session ≡ Some place
    → ((other : ℕ) → place_of after other ≡ (if nat_eq session other then None else place_of places other))
    → Indexed places rows → Indexed after (without place rows)
left_index places after rows session place rising is removed ok =
    let it = passes (is_session session) (member_at place rows) (ok.told session place is) in
    let same : it.0 ≡ session = eqb-true it.0 session it.2 in
    index_gone nat_eq is_session (place_of places) (place_of after) rows place it.0 it.0 (λ other. refl) rising it.1
    (subst (λ (s : ℕ). (other : ℕ) → place_of after other ≡ (if nat_eq s other then None else place_of places other)) (sym same) removed) ok
