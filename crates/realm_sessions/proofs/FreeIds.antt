-- A free id is found among as many ids as there are links and one more: that many ids in a row differ, and each session takes one of them.
use Rattle.std.proofs.Common.{◌≡◌, ℕ, zero, suc, ◌+◌, ◌<◌, ◌≤◌, ◌==◌, Bool, true, false, ◌||◌, nat_lt, nat_le, List, [], ◌∷◌}
use Rattle.std.proofs.Common.{length, filter, Option, None, Some, Result, Ok, Err, refl, sym, ap, subst, ◌∙◌, ◌⊎◌, ⊎_elim, inl, inr, arith}
use Rattle.std.proofs.lemmas.Bool.{cond_both, cond-true, cond-false, cases_lt, lt-ltb, le-ltb, le-leb, leb-true, eqb-true, and_parts}
use Rattle.std.proofs.lemmas.Bool.{and_from, false_from_ne_true}
use Rattle.wamp_ids.specs.Id.{last_id, is_id, id_after}
use Rattle.realm_sessions.specs.declared.links.Session.{Session}
use Rattle.realm_sessions.specs.declared.links.Link.{Link}
use Rattle.realm_sessions.specs.Links.{is_session, is_open, has_id, has_session, is_taken, free_from, new_session_id, session_count}
use Rattle.realm_sessions.specs.Sessions.{Sessions, Opened, opened, open_session}
use Rattle.realm_sessions.specs.Laws.{AreSoundLinks, OpenKeepsSound, FreeIdIsFound, OpensWhereRoom, LimitWhereFull}
use Rattle.realm_sessions.specs.declared.fault.RealmFault.{RealmFault}
use Rattle.realm_sessions.specs.declared.fault.RealmFault.TheVariants.{Limit}
use Rattle.paxos_packets.specs.declared.transport.Transport.{Transport}
use Rattle.realm_sessions.proofs.SoundLinks.{opened_sound}

-- ---- counting

abbrev pub bit : Bool → ℕ
bit true = 1
bit false = 0

-- how many numbers below k pass
abbrev pub hits : (ℕ → Bool) → ℕ → ℕ
hits p zero = 0
hits p (suc k) = bit (p k) + hits p k

pub hits_none : (p : ℕ → Bool) (k : ℕ) → ((j : ℕ) → j < k → p j ≡ false) → hits p k ≡ 0
hits_none p zero h = refl
hits_none p (suc k) h =
    let here : bit (p k) ≡ 0 = ap bit (h k (omega arith)) in
    let rest : hits p k ≡ 0 = hits_none p k (λ j below. h j (omega arith)) in
    omega (arith, here, rest)

pub hits_all : (p : ℕ → Bool) (k : ℕ) → ((j : ℕ) → j < k → p j ≡ true) → hits p k ≡ k
hits_all p zero h = refl
hits_all p (suc k) h =
    let here : bit (p k) ≡ 1 = ap bit (h k (omega arith)) in
    let rest : hits p k ≡ k = hits_all p k (λ j below. h j (omega arith)) in
    omega (arith, here, rest)

one_more : (p : ℕ → Bool) (k : ℕ) (b : Bool) → p k ≡ b → (b ≡ true → hits p k ≡ 0) → hits p k ≤ 1 → bit (p k) + hits p k ≤ 1
one_more p k true e none rest =
    let here : bit (p k) ≡ 1 = ap bit e in let zero_left : hits p k ≡ 0 = none refl in omega (arith, here, zero_left)
one_more p k false e none rest = let here : bit (p k) ≡ 0 = ap bit e in omega (arith, here, rest)

pub hits_one : (p : ℕ → Bool) (k : ℕ) → ((i j : ℕ) → i < j → j < k → p i ≡ true → p j ≡ true → ⊥) → hits p k ≤ 1
hits_one p zero h = omega arith
hits_one p (suc k) h =
    one_more p k (p k) refl
    (λ passes. hits_none p k (λ j below. false_from_ne_true (p j) (λ other. h j k below (omega arith) other passes)))
    (hits_one p k (λ i j before below. h i j before (omega arith)))

bit_or : (a b : Bool) → bit (a || b) ≤ bit a + bit b
bit_or true b = omega arith
bit_or false b = omega arith

pub hits_or : (p q : ℕ → Bool) (k : ℕ) → hits (λ j. p j || q j) k ≤ hits p k + hits q k
hits_or p q zero = omega arith
hits_or p q (suc k) =
    let here : bit (p k || q k) ≤ bit (p k) + bit (q k) = bit_or (p k) (q k) in
    let rest : hits (λ j. p j || q j) k ≤ hits p k + hits q k = hits_or p q k in
    omega (arith, here, rest)

-- ---- of different ids, each session takes one at most

abbrev pub AreDifferent : (ℕ → ℕ) → ℕ → Type 0
AreDifferent f k = (i j : ℕ) → i < j → j < k → f i ≡ f j → ⊥

one_session : (f : ℕ → ℕ) (k : ℕ) → AreDifferent f k → (session : Option Session)
    → hits (λ j. is_session (f j) session) k ≤ bit (is_open session)
one_session f k apart None = let none : hits (λ j. false) k ≡ 0 = hits_none (λ j. false) k (λ j below. refl) in omega (arith, none)
one_session f k apart (Some session) =
    hits_one (λ j. session.id == f j) k
    (λ i j before below at_i at_j. apart i j before below (sym (eqb-true session.id (f i) at_i) ∙ eqb-true session.id (f j) at_j))

counted : (link : Link) (links : List Link) → bit (has_session link) + session_count links ≡ session_count (link ∷ links)
counted link links =
    cond_both (has_session link) (link ∷ filter has_session links) (filter has_session links)
    (λ (kept : List Link). bit (has_session link) + session_count links ≡ length kept)
    (λ e. let here : bit (has_session link) ≡ 1 = ap bit e in omega (arith, here))
    (λ e. let here : bit (has_session link) ≡ 0 = ap bit e in omega (arith, here))

taken_hits : (f : ℕ → ℕ) (k : ℕ) → AreDifferent f k → (links : List Link) → hits (λ j. is_taken links (f j)) k ≤ session_count links
taken_hits f k apart [] = let none : hits (λ j. false) k ≡ 0 = hits_none (λ j. false) k (λ j below. refl) in omega (arith, none)
taken_hits f k apart (link ∷ links) =
    let here : hits (λ j. has_id (f j) link) k ≤ bit (has_session link) = one_session f k apart link.session in
    let rest : hits (λ j. is_taken links (f j)) k ≤ session_count links = taken_hits f k apart links in
    omega (arith, hits_or (λ j. has_id (f j) link) (λ j. is_taken links (f j)) k, here, rest, counted link links)

-- there are no more sessions than links
few_sessions : (links : List Link) → session_count links ≤ length links
few_sessions [] = omega arith
few_sessions (link ∷ links) =
    let rest : session_count links ≤ length links = few_sessions links in
    cond_both (has_session link) (link ∷ filter has_session links) (filter has_session links)
    (λ (kept : List Link). length kept ≤ suc (length links))
    (λ _. omega (arith, rest)) (λ _. omega (arith, rest))

-- ---- ids in a row

-- the id that many places on
abbrev pub ahead : ℕ → ℕ → ℕ
ahead zero id = id
ahead (suc j) id = ahead j (id_after id)

after_cases : (id : ℕ) → ((id < last_id) × (id_after id ≡ id + 1)) ⊎ ((last_id ≤ id) × (id_after id ≡ 1))
after_cases id =
    ⊎_elim
    (λ low. inl (low, cond-true (nat_lt id last_id) (id + 1) 1 (lt-ltb id last_id low)))
    (λ high. inr (high, cond-false (nat_lt id last_id) (id + 1) 1 (le-ltb id last_id high)))
    (cases_lt id last_id)

-- that many places on, before or after the greatest id
abbrev pub IsAhead : ℕ → ℕ → ℕ → Type 0
IsAhead j id found = ((id + j ≤ last_id) × (found ≡ id + j)) ⊎ ((last_id < id + j) × (found + last_id ≡ id + j))

ahead_next : (j id next found : ℕ) → id ≤ last_id → suc j < last_id → ((id < last_id) × (next ≡ id + 1)) ⊎ ((last_id ≤ id) × (next ≡ 1))
    → IsAhead j next found → IsAhead (suc j) id found
ahead_next j id next found low few (inl step) (inl near) =
    inl (omega (arith, step.0, step.1, near.0, near.1), omega (arith, step.0, step.1, near.0, near.1))
ahead_next j id next found low few (inl step) (inr far) =
    inr (omega (arith, step.0, step.1, far.0, far.1), omega (arith, step.0, step.1, far.0, far.1))
ahead_next j id next found low few (inr step) (inl near) =
    inr (omega (arith, step.0, step.1, near.0, near.1), omega (arith, step.0, step.1, near.0, near.1))
ahead_next j id next found low few (inr step) (inr far) = absurd (omega (arith, step.0, step.1, far.0, far.1))

after_low : (id : ℕ) → 1 ≤ id_after id
after_low id = ⊎_elim (λ near. omega (arith, near.1)) (λ far. omega (arith, far.1)) (after_cases id)

after_high : (id : ℕ) → id_after id ≤ last_id
after_high id = ⊎_elim (λ near. omega (arith, near.0, near.1)) (λ far. omega (arith, far.1)) (after_cases id)

pub is_ahead : (j id : ℕ) → 1 ≤ id → id ≤ last_id → j < last_id → IsAhead j id (ahead j id)
is_ahead zero id low high few = inl (omega arith, omega arith)
is_ahead (suc j) id low high few =
    ahead_next j id (id_after id) (ahead j (id_after id)) high few (after_cases id)
    (is_ahead j (id_after id) (after_low id) (after_high id) (omega arith))

apart : (i j id found : ℕ) → 1 ≤ id → i < j → j < last_id → IsAhead i id found → IsAhead j id found → ⊥
apart i j id found low before few (inl p) (inl q) = omega (arith, p.0, p.1, q.0, q.1)
apart i j id found low before few (inl p) (inr q) = omega (arith, p.0, p.1, q.0, q.1)
apart i j id found low before few (inr p) (inl q) = omega (arith, p.0, p.1, q.0, q.1)
apart i j id found low before few (inr p) (inr q) = omega (arith, p.0, p.1, q.0, q.1)

-- as many ids in a row as there are differ
pub differ : (id k : ℕ) → 1 ≤ id → id ≤ last_id → k ≤ last_id → AreDifferent (λ j. ahead j id) k
differ id k low high few i j before below same =
    apart i j id (ahead j id) low before (omega arith)
    (subst (λ (n : ℕ). IsAhead i id n) same (is_ahead i id low high (omega arith))) (is_ahead j id low high (omega arith))

-- ---- the search

each_turn : (used : ℕ → Bool) (id turns : ℕ) → used id ≡ true → ((j : ℕ) → j < turns → used (ahead j (id_after id)) ≡ true)
    → (j : ℕ) → j < suc turns → used (ahead j id) ≡ true
each_turn used id turns here later zero below = here
each_turn used id turns here later (suc j) below = later j (omega arith)

-- if nothing is found, all ids in a row are used
pub all_used : (turns : ℕ) (used : ℕ → Bool) (id : ℕ) → free_from turns used id ≡ None → (j : ℕ) → j < turns → used (ahead j id) ≡ true
all_used zero used id h = λ j below. absurd (omega arith)
all_used (suc turns) used id h =
    cond_both (used id) (free_from turns used (id_after id)) (Some id)
    (λ (o : Option ℕ). o ≡ None → (j : ℕ) → j < suc turns → used (ahead j id) ≡ true)
    (λ here none. each_turn used id turns here (all_used turns used (id_after id) none)) (λ _ some. absurd (neither id some)) h
  where
    neither : (n : ℕ) → Some n ≡ None → ⊥
    neither n p = cc

pub after_is_id : (id : ℕ) → is_id (id_after id) ≡ true
after_is_id id =
    and_from (nat_le 1 (id_after id)) (nat_le (id_after id) last_id) (le-leb 1 (id_after id) (after_low id))
    (le-leb (id_after id) last_id (after_high id))

pub found_is_id : (turns : ℕ) (used : ℕ → Bool) (from id : ℕ) → is_id from ≡ true → free_from turns used from ≡ Some id → is_id id ≡ true
found_is_id zero used from id ok h = absurd (neither h)
  where
    neither : None ≡ Some id → ⊥
    neither p = cc
found_is_id (suc turns) used from id ok h =
    cond_both (used from) (free_from turns used (id_after from)) (Some from) (λ (o : Option ℕ). o ≡ Some id → is_id id ≡ true)
    (λ _ later. found_is_id turns used (id_after from) id (after_is_id from) later) (λ _ here. ap is_id (sym (same here)) ∙ ok) h
  where
    same : Some from ≡ Some id → from ≡ id
    same p = cc

-- nothing found is too many sessions
crowded : (links : List Link) (draw k : ℕ) → 1 ≤ draw → draw ≤ last_id → new_session_id links draw ≡ None → k ≤ suc (length links)
    → k ≤ last_id
    → k ≤ session_count links
crowded links draw k low high none turns few =
    let used : (j : ℕ) → j < k → is_taken links (ahead j draw) ≡ true =
    λ j below. all_used (suc (length links)) (is_taken links) draw none j (omega arith) in
    let all : hits (λ j. is_taken links (ahead j draw)) k ≡ k = hits_all (λ j. is_taken links (ahead j draw)) k used in
    let most : hits (λ j. is_taken links (ahead j draw)) k ≤ session_count links =
    taken_hits (λ j. ahead j draw) k (differ draw k low high few) links in
    omega (arith, all, most)

not_crowded : (links : List Link) (draw : ℕ) → 1 ≤ draw → draw ≤ last_id → session_count links < last_id
    → new_session_id links draw ≡ None → ⊥
not_crowded links draw low high few none =
    let full = λ (k : ℕ) (turns : k ≤ suc (length links)) (ids : k ≤ last_id). crowded links draw k low high none turns ids in
    ⊎_elim
    (λ many. omega (arith, full last_id (omega arith) (omega arith)))
    (λ fits. omega (arith, full (suc (length links)) (omega arith) fits, few_sessions links))
    (cases_lt last_id (suc (length links)))

some_is : {x y : ℕ} → Some x ≡ Some y → x ≡ y
some_is h = cc

-- the id that is found is free
pub found_free : (turns : ℕ) (used : ℕ → Bool) (from id : ℕ) → free_from turns used from ≡ Some id → used id ≡ false
found_free zero used from id h = absurd (none h)
  where
    none : None ≡ Some id → ⊥
    none p = cc
found_free (suc turns) used from id h =
    cond_both (used from) (free_from turns used (id_after from)) (Some from) (λ (o : Option ℕ). o ≡ Some id → used id ≡ false)
    (λ _ later. found_free turns used (id_after from) id later) (λ free here. ap used (sym (some_is here)) ∙ free) h

pub free_id_found : FreeIdIsFound
free_id_found links draw ok few = found (new_session_id links draw) refl
  where
    found : (o : Option ℕ) → new_session_id links draw ≡ o
        → (id : ℕ) × (is_id id ≡ true) × (is_taken links id ≡ false) × (new_session_id links draw ≡ Some id)
    found None e =
        let parts = and_parts (nat_le 1 draw) (nat_le draw last_id) ok in
        absurd (not_crowded links draw (leb-true 1 draw parts.0) (leb-true draw last_id parts.1) few e)
    found (Some id) e =
        let turns = suc (length links) in
        (id, found_is_id turns (is_taken links) draw id ok e, found_free turns (is_taken links) draw id e, e)

abbrev full : Sessions → Opened
full sessions = record { sessions = sessions; answer = Err Limit }

pub open_where_room : OpensWhereRoom
open_where_room sessions t draw canceling ok few room =
    let found = free_id_found sessions.list draw ok (omega arith) in
    let id = new_session_id sessions.list draw in (
      found.0,
      found.1,
      found.2,
      cond-true (nat_lt (session_count sessions.list) sessions.limit) (opened sessions t canceling id) (full sessions)
          (lt-ltb (session_count sessions.list) sessions.limit room)
          ∙ ap (opened sessions t canceling) found.3,
    )

is_not_limit : (answer : Result ℕ RealmFault) (id : ℕ) → answer ≡ Ok id → answer ≡ Err Limit → ⊥
is_not_limit answer id is refused = cc

pub limit_where_full : LimitWhereFull
limit_where_full sessions t draw canceling ok few = (
  λ refused. ⊎_elim
      (λ room. let found = open_where_room sessions t draw canceling ok few room in
      absurd (is_not_limit (open_session sessions t draw canceling).answer found.0 (ap (λ (o : Opened). o.answer) found.3) refused))
      (λ high. high)
      (cases_lt (session_count sessions.list) sessions.limit),
  λ high. ap (λ (o : Opened). o.answer)
      (cond-false (nat_lt (session_count sessions.list) sessions.limit)
      (opened sessions t canceling (new_session_id sessions.list draw)) (full sessions)
      (le-ltb (session_count sessions.list) sessions.limit high)),
)

-- ---- opening keeps what is sound

opened_with : (sessions : Sessions) (t : Transport) (canceling : Bool) (id : Option ℕ)
    → ((n : ℕ) → id ≡ Some n → is_taken sessions.list n ≡ false) → AreSoundLinks sessions.list
    → AreSoundLinks (opened sessions t canceling id).sessions.list
opened_with sessions t canceling None free ok = ok
opened_with sessions t canceling (Some id) free ok =
    opened_sound sessions.list t (record { id = id; canceling = canceling; last_invocation = None }) (free id refl) ok

pub open_sound : OpenKeepsSound
open_sound sessions t draw canceling ok =
    let id = new_session_id sessions.list draw in
    cond_both (nat_lt (session_count sessions.list) sessions.limit) (opened sessions t canceling id) (full sessions)
    (λ (o : Opened). AreSoundLinks o.sessions.list)
    (λ _. opened_with sessions t canceling id
    (λ n h. found_free (suc (length sessions.list)) (is_taken sessions.list) draw n h) ok)
    (λ _. ok)
