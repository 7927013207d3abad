-- A free id of an invocation is found unless all are taken: that many ids in a row differ, and each one that is taken is one of the list.
use Rattle.std.proofs.Common.{◌≡◌, ℕ, zero, suc, ◌+◌, ◌-◌, ◌<◌, ◌≤◌, ◌==◌, Bool, true, false, nat_lt, nat_le, List, [], ◌∷◌}
use Rattle.std.proofs.Common.{length, Option, None, Some, IfSome, option_map, refl, sym, ap, ◌∙◌, ⊎_elim, inl, inr, arith}
use Rattle.std.proofs.lemmas.Bool.{cond-true, cond-false, cases_lt, leb-true, ltb-true, ltb-false, eqb-true, and_parts}
use Rattle.wamp_ids.specs.Id.{last_id, is_id, id_after}
use Rattle.realm_sessions.specs.Links.{free_from, has_number, invocation_after, invocation_of, free_invocation, session_with}
use Rattle.realm_sessions.specs.declared.links.Session.{Session}
use Rattle.realm_sessions.specs.Sessions.{Sessions, invoked_with}
use Rattle.realm_sessions.specs.Laws.{FreeInvocationIsFree, NoneWhereAllAreTaken, NextIsFree, DueIsNext}
use Rattle.realm_sessions.proofs.FreeIds.{hits, hits_none, hits_all, hits_one, hits_or, AreDifferent, ahead, differ, all_used, after_is_id}
use Rattle.realm_sessions.proofs.FreeIds.{found_is_id, found_free, IsAhead, is_ahead}

-- ---- of different ids, each one that is taken is one of the list

one_number : (f : ℕ → ℕ) (k : ℕ) → AreDifferent f k → (id : ℕ) → hits (λ j. id == f j) k ≤ 1
one_number f k apart id =
    hits_one (λ j. id == f j) k
    (λ i j before below at_i at_j. apart i j before below (sym (eqb-true id (f i) at_i) ∙ eqb-true id (f j) at_j))

number_hits : (f : ℕ → ℕ) (k : ℕ) → AreDifferent f k → (ids : List ℕ) → hits (λ j. has_number ids (f j)) k ≤ length ids
number_hits f k apart [] = let none : hits (λ j. false) k ≡ 0 = hits_none (λ j. false) k (λ j below. refl) in omega (arith, none)
number_hits f k apart (id ∷ ids) =
    let here : hits (λ j. id == f j) k ≤ 1 = one_number f k apart id in
    let rest : hits (λ j. has_number ids (f j)) k ≤ length ids = number_hits f k apart ids in
    omega (arith, hits_or (λ j. id == f j) (λ j. has_number ids (f j)) k, here, rest)

crowded : (ids : List ℕ) (from : ℕ) → 1 ≤ from → from ≤ last_id → free_from (suc (length ids)) (has_number ids) from ≡ None
    → suc (length ids) ≤ last_id → ⊥
crowded ids from low high none few =
    let k = suc (length ids) in
    let used : (j : ℕ) → j < k → has_number ids (ahead j from) ≡ true = λ j below. all_used k (has_number ids) from none j below in
    let all : hits (λ j. has_number ids (ahead j from)) k ≡ k = hits_all (λ j. has_number ids (ahead j from)) k used in
    let most : hits (λ j. has_number ids (ahead j from)) k ≤ length ids =
    number_hits (λ j. ahead j from) k (differ from k low high few) ids in
    omega (arith, all, most)

-- ---- each id is some number of places after another

-- how far it is to an id
abbrev way : ℕ → ℕ → Bool → ℕ
way from id true = id + last_id - from
way from id false = id - from

reached : (from id found : ℕ) → 1 ≤ from → from ≤ last_id → 1 ≤ id → id ≤ last_id → (b : Bool) → nat_lt id from ≡ b
    → IsAhead (way from id b) from found → found ≡ id
reached from id found low high least most true e (inl near) = absurd (omega (arith, near.0))
reached from id found low high least most true e (inr far) = let before = ltb-true id from e in omega (arith, far.1, before)
reached from id found low high least most false e (inl near) = let behind = ltb-false id from e in omega (arith, near.1, behind)
reached from id found low high least most false e (inr far) = let behind = ltb-false id from e in absurd (omega (arith, far.0, behind))

below_way : (from id : ℕ) → 1 ≤ from → from ≤ last_id → 1 ≤ id → id ≤ last_id → (b : Bool) → nat_lt id from ≡ b → way from id b < last_id
below_way from id low high least most true e = let before = ltb-true id from e in omega (arith, before)
below_way from id low high least most false e = let behind = ltb-false id from e in omega (arith, behind)

all_taken : (ids : List ℕ) (from : ℕ) → 1 ≤ from → from ≤ last_id → free_from (suc (length ids)) (has_number ids) from ≡ None
    → (id : ℕ) → is_id id ≡ true → has_number ids id ≡ true
all_taken ids from low high none id ok =
    let parts = and_parts (nat_le 1 id) (nat_le id last_id) ok in
    let least = leb-true 1 id parts.0 in
    let most = leb-true id last_id parts.1 in
    let j = way from id (nat_lt id from) in
    let few : j < last_id = below_way from id low high least most (nat_lt id from) refl in
    let at : ahead j from ≡ id = reached from id (ahead j from) low high least most (nat_lt id from) refl (is_ahead j from low high few) in
    ⊎_elim
    (λ many. ap (has_number ids) (sym at) ∙ all_used (suc (length ids)) (has_number ids) from none j (omega arith))
    (λ fits. absurd (crowded ids from low high none fits))
    (cases_lt last_id (suc (length ids)))

none_found : (turns : ℕ) (used : ℕ → Bool) (from : ℕ) → is_id from ≡ true → ((id : ℕ) → is_id id ≡ true → used id ≡ true)
    → free_from turns used from ≡ None
none_found zero used from ok all = refl
none_found (suc turns) used from ok all =
    cond-true (used from) (free_from turns used (id_after from)) (Some from) (all from ok)
    ∙ none_found turns used (id_after from) (after_is_id from) all

start_is_id : (last : Option ℕ) → is_id (invocation_after last) ≡ true
start_is_id None = refl
start_is_id (Some last) = after_is_id last

pub free_invocation_free : FreeInvocationIsFree
free_invocation_free taken last id found =
    let from = invocation_after last in
    let turns = suc (length taken) in
    (found_is_id turns (has_number taken) from id (start_is_id last) found, found_free turns (has_number taken) from id found)

pub none_all_taken : NoneWhereAllAreTaken
none_all_taken taken last =
    let from = invocation_after last in
    let parts = and_parts (nat_le 1 from) (nat_le from last_id) (start_is_id last) in (
      λ none. all_taken taken from (leb-true 1 from parts.0) (leb-true from last_id parts.1) none,
      λ all. none_found (suc (length taken)) (has_number taken) from (start_is_id last) all,
    )

free_step : (sessions : Sessions) (id : ℕ) (taken : List ℕ) (last found : Option ℕ) → free_invocation taken last ≡ found
    → IfSome (invoked_with sessions id found).answer (λ invocation. has_number taken invocation ≡ false)
free_step sessions id taken last None is = tt
free_step sessions id taken last (Some invocation) is = (free_invocation_free taken last invocation is).1

next_step : (sessions : Sessions) (id : ℕ) (taken : List ℕ) (session : Option Session)
    → IfSome (invoked_with sessions id (invocation_of taken session)).answer (λ invocation. has_number taken invocation ≡ false)
next_step sessions id taken None = tt
next_step sessions id taken (Some session) =
    free_step sessions id taken session.last_invocation (free_invocation taken session.last_invocation) refl

pub next_is_free : NextIsFree
next_is_free sessions id taken = next_step sessions id taken (session_with sessions.list id)

due_step : (session : Option Session) (taken : List ℕ) (due : ℕ)
    → option_map (λ (session : Session). invocation_after session.last_invocation) session ≡ Some due → has_number taken due ≡ false
    → invocation_of taken session ≡ invocation_of [] session
due_step None taken due is free = refl
due_step (Some session) taken due is free =
    let first = invocation_after session.last_invocation in
    let same : first ≡ due = same_some is in
    cond-false (has_number taken first) (free_from (length taken) (has_number taken) (id_after first)) (Some first)
    (ap (has_number taken) same ∙ free)
  where
    same_some : {a b : ℕ} → Some a ≡ Some b → a ≡ b
    same_some h = cc

pub due_is_next : DueIsNext
due_is_next sessions id due taken is free =
    ap (invoked_with sessions id) (due_step (session_with sessions.list id) taken due is free)
