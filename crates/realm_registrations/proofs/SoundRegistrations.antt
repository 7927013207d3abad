-- What the registrations of a realm keep: ids rise, each text and match has one registration, each registration its callees, each of them once, and
-- one under `single`.
use Rattle.std.proofs.Common.{◌≡◌, ◌≢◌, ℕ, ◌+◌, ◌<◌, ◌≤◌, ◌==◌, Bool, true, false, not, ◌&&◌, List, [], ◌∷◌, length, map, filter}
use Rattle.std.proofs.Common.{nat_lt, cond, Ok, Option, None, Some, refl, sym, subst, ◌∙◌, arith, length-append, Err}
use Rattle.std.specs.List.{All, AllPairs}
use Rattle.std.proofs.lemmas.Bool.{cond_both, both_ways, eqb-false, ltb-true, and_parts, or_parts, not-true, not-false, false≢true}
use Rattle.std.proofs.lemmas.List.Elements.{All-nil, All-cons, All-head, All-tail, All-map, All-weaker, All-push, All-filter}
use Rattle.std.proofs.lemmas.List.Kept.{AllPairs-filter}
use Rattle.std.proofs.lemmas.List.Quantifiers.{all_pairs_push}
use Rattle.wamp_ids.specs.declared.policy.Invoke.{Invoke}
use Rattle.wamp_ids.specs.declared.policy.Invoke.TheVariants.{Single}
use Rattle.wamp_ids.specs.Id.{last_id}
use Rattle.wamp_ids.specs.Uri.{is_reserved}
use Rattle.wamp_ids.specs.Pattern.{PatternValue}
use Rattle.wamp_patterns.proofs.Order.{kept_as_one}
use Rattle.realm_sessions.specs.Members.{rotated}
use Rattle.realm_sessions.specs.declared.fault.RealmFault.TheVariants as fault
use Rattle.realm_sessions.proofs.Pairs.{AllPairs-nil, AllPairs-head, AllPairs-tail, AllPairs-map, All-none, All-not_found}
use Rattle.realm_registrations.specs.declared.registration.Registration.{Registration}
use Rattle.realm_registrations.specs.Registration.{is_at, has_id, has_callee, has_callees, is_shared, same_invoke, may_join}
use Rattle.realm_registrations.specs.Registration.{with_callee, without_callee, takes_turns, turned}
use Rattle.realm_registrations.specs.Registrations.{Registrations, Registered, Unregistered, no_registrations, with_list, registration_at, is_full}
use Rattle.realm_registrations.specs.Registrations.{change_first, refused, with_registration, with_callee_at, register_at, register}
use Rattle.realm_registrations.specs.Registrations.{is_callee, without_callee_of, unregister, leave, turn}
use Rattle.realm_registrations.specs.Laws.{IsSoundRegistration, AreSoundRegistrations, Call, after_call, after}
use Rattle.realm_registrations.proofs.Changes.{All-change_first, AllPairs-change_first, All-found_changed}

abbrev Rise : Registration → Registration → Type 0
Rise a b = a.id < b.id

abbrev Differ : Registration → Registration → Type 0
Differ a b = a.pattern ≢ b.pattern

-- what of it speaks of ids and patterns alone
record AreListed (list : List Registration) (last : ℕ) : Type 0 where
  ids : AllPairs Rise list
  handed_out : All (λ (r : Registration). r.id ≤ last) list
  one_each : AllPairs Differ list

listed : (registrations : Registrations) → AreSoundRegistrations registrations → AreListed registrations.list registrations.last
listed registrations ok = record { ids = ok.ids; handed_out = ok.handed_out; one_each = ok.one_each }

sound : (registrations : Registrations) → AreListed registrations.list registrations.last → registrations.last ≤ last_id → All IsSoundRegistration registrations.list
    → AreSoundRegistrations registrations
sound registrations ok last each =
    record { ids = ok.ids; handed_out = ok.handed_out; last = last; one_each = ok.one_each; each = each }

pub nothing_sound : (limit : ℕ) → AreSoundRegistrations (no_registrations limit)
nothing_sound limit = record {
  ids = AllPairs-nil Rise;
  handed_out = All-nil (λ (r : Registration). r.id ≤ 0);
  last = omega arith;
  one_each = AllPairs-nil Differ;
  each = All-nil IsSoundRegistration;
}

-- a change of callees alone
record KeepsNames (f : Registration → Registration) : Type 0 where
  id : (r : Registration) → (f r).id ≡ r.id
  pattern : (r : Registration) → (f r).pattern ≡ r.pattern

module _ (f : Registration → Registration) (keeps : KeepsNames f) where
  rises_first : (a b : Registration) → a.id < b.id → (f a).id < b.id
  rises_first a b h = let p = keeps.id a in omega (arith, p, h)

  rises_second : (a b : Registration) → a.id < b.id → a.id < (f b).id
  rises_second a b h = let p = keeps.id b in omega (arith, p, h)

  rises_both : (a b : Registration) → a.id < b.id → (f a).id < (f b).id
  rises_both a b h = let p = keeps.id a in let q = keeps.id b in omega (arith, p, q, h)

  low : (last : ℕ) (r : Registration) → r.id ≤ last → (f r).id ≤ last
  low last r h = let p = keeps.id r in omega (arith, p, h)

  changed_listed : (test : Registration → Bool) (list : List Registration) (last : ℕ) → AreListed list last
      → AreListed (change_first test f list) last
  changed_listed test list last ok = record {
    ids = AllPairs-change_first test f Rise rises_first rises_second list ok.ids;
    handed_out = All-change_first test f (λ (r : Registration). r.id ≤ last) (low last) list ok.handed_out;
    one_each = AllPairs-change_first test f Differ (λ a b apart same. apart (sym (keeps.pattern a) ∙ same))
        (λ a b apart same. apart (same ∙ keeps.pattern b)) list ok.one_each;
  }

  mapped_listed : (list : List Registration) (last : ℕ) → AreListed list last → AreListed (map f list) last
  mapped_listed list last ok = record {
    ids = AllPairs-map f (λ (r : Registration). r.id ≤ last) Rise Rise (λ a b _ _ below. rises_both a b below) list ok.handed_out ok.ids;
    handed_out = All-map (λ (r : Registration). r.id ≤ last) f list
        (All-weaker (λ (r : Registration). r.id ≤ last) (λ (r : Registration). (f r).id ≤ last) (low last) list ok.handed_out);
    one_each = AllPairs-map f (λ (r : Registration). r.id ≤ last) Differ Differ
        (λ a b _ _ apart same. apart (sym (keeps.pattern a) ∙ (same ∙ keeps.pattern b))) list ok.handed_out ok.one_each;
  }

filtered_listed : (test : Registration → Bool) (list : List Registration) (last : ℕ) → AreListed list last
    → AreListed (filter test list) last
filtered_listed test list last ok = record {
  ids = AllPairs-filter Rise test list ok.ids;
  handed_out = All-filter test (λ (r : Registration). r.id ≤ last) list ok.handed_out;
  one_each = AllPairs-filter Differ test list ok.one_each;
}

callee_names : (session : ℕ) → KeepsNames (with_callee session)
callee_names session = record { id = λ r. refl; pattern = λ r. refl }

left_names : (session : ℕ) → KeepsNames (without_callee session)
left_names session = record { id = λ r. refl; pattern = λ r. refl }

turned_names : KeepsNames turned
turned_names = record {
  id = λ r. cond_both (takes_turns r.invoke) (record r { callees = rotated r.callees }) r (λ (x : Registration). x.id ≡ r.id)
      (λ _. refl) (λ _. refl);
  pattern = λ r. cond_both (takes_turns r.invoke) (record r { callees = rotated r.callees }) r
      (λ (x : Registration). x.pattern ≡ r.pattern) (λ _. refl) (λ _. refl);
}

-- ---- a session registers

alone : (session : ℕ) → AllPairs (λ (a b : ℕ). a ≢ b) (session ∷ [])
alone session i j d before within = absurd (omega arith)

added_listed : (registrations : Registrations) (session : ℕ) (pattern : PatternValue) (invoke : Invoke) → registration_at registrations pattern ≡ None
    → AreListed registrations.list registrations.last → AreListed (with_registration registrations session pattern invoke).list (registrations.last + 1)
added_listed registrations session pattern invoke none ok =
    let new : Registration = record { id = registrations.last + 1; pattern = pattern; invoke = invoke; callees = session ∷ [] } in
    let below : All (λ (r : Registration). r.id ≤ registrations.last + 1) registrations.list =
    All-weaker (λ (r : Registration). r.id ≤ registrations.last) (λ (r : Registration). r.id ≤ registrations.last + 1)
    (λ r h. omega arith) registrations.list ok.handed_out in
    let rise : All (λ (r : Registration). Rise r new) registrations.list =
    All-weaker (λ (r : Registration). r.id ≤ registrations.last) (λ (r : Registration). Rise r new)
    (λ r h. omega arith) registrations.list ok.handed_out in
    let differ : All (λ (r : Registration). Differ r new) registrations.list =
    All-weaker (λ (r : Registration). is_at pattern r ≡ false) (λ (r : Registration). Differ r new)
    (λ r off same. both_ways (is_at pattern r) off ((kept_as_one r.pattern pattern).1 same)) registrations.list
    (All-not_found (is_at pattern) registrations.list none) in
    record {
      ids = all_pairs_push Rise registrations.list new ok.ids (λ k d within. rise k d within);
      handed_out = All-push (λ (r : Registration). r.id ≤ registrations.last + 1) registrations.list new below (omega arith);
      one_each = all_pairs_push Differ registrations.list new ok.one_each (λ k d within. differ k d within);
    }

added_sound : (registrations : Registrations) (session : ℕ) (pattern : PatternValue) (invoke : Invoke) → registration_at registrations pattern ≡ None
    → registrations.last < last_id → AreSoundRegistrations registrations → AreSoundRegistrations (with_registration registrations session pattern invoke)
added_sound registrations session pattern invoke none room ok =
    let new : Registration = record { id = registrations.last + 1; pattern = pattern; invoke = invoke; callees = session ∷ [] } in
    sound (with_registration registrations session pattern invoke)
    (added_listed registrations session pattern invoke none (listed registrations ok)) (omega arith)
    (All-push IsSoundRegistration registrations.list new ok.each
    (record { callees = alone session; held = omega arith; single = λ _. refl }))

not_single : (invoke : Invoke) → is_shared invoke ≡ true → invoke ≡ Single → ⊥
not_single invoke shared single = false≢true (subst (λ (i : Invoke). is_shared i ≡ true) single shared)

-- a callee more, which was none before, of a registration that is shared
one_more : (session : ℕ) (invoke : Invoke) (r : Registration) → may_join session invoke r ≡ true → IsSoundRegistration r
    → IsSoundRegistration (with_callee session r)
one_more session invoke r may ok =
    let parts = and_parts (is_shared r.invoke) (same_invoke r.invoke invoke && not (has_callee session r)) may in
    let new : has_callee session r ≡ false = not-true (has_callee session r)
    ((and_parts (same_invoke r.invoke invoke) (not (has_callee session r)) parts.1).1) in
    let apart : All (λ (m : ℕ). m ≢ session) r.callees = All-weaker (λ (m : ℕ). (m == session) ≡ false) (λ (m : ℕ). m ≢ session)
    (λ m off. eqb-false m session off) r.callees (All-none (λ (m : ℕ). m == session) r.callees new) in
    record {
      callees = all_pairs_push (λ (a b : ℕ). a ≢ b) r.callees session ok.callees (λ k d within. apart k d within);
      held = let long = length-append r.callees (session ∷ []) in omega arith;
      single = λ is. absurd (not_single r.invoke parts.0 is);
    }

joined_sound : (registrations : Registrations) (session : ℕ) (pattern : PatternValue) (invoke : Invoke) (found : Registration)
    → registration_at registrations pattern ≡ Some found → may_join session invoke found ≡ true
    → AreSoundRegistrations registrations → AreSoundRegistrations (with_callee_at registrations session pattern)
joined_sound registrations session pattern invoke found is may ok =
    sound (with_callee_at registrations session pattern)
    (changed_listed (with_callee session) (callee_names session) (is_at pattern) registrations.list registrations.last (listed registrations ok)) ok.last
    (All-found_changed (is_at pattern) (with_callee session) IsSoundRegistration found (one_more session invoke found may) registrations.list is
    ok.each)

room_left : (registrations : Registrations) (session : ℕ) → is_full registrations session ≡ false → registrations.last < last_id
room_left registrations session room = ltb-true registrations.last last_id (not-false (nat_lt registrations.last last_id)
    ((or_parts (not (nat_lt (length (filter (has_callee session) registrations.list)) registrations.limit)) (not (nat_lt registrations.last last_id)) room).1))

register_at_sound : (registrations : Registrations) (session : ℕ) (pattern : PatternValue) (invoke : Invoke) (o : Option Registration)
    → registration_at registrations pattern ≡ o → AreSoundRegistrations registrations
    → AreSoundRegistrations (register_at registrations session pattern invoke o).registrations
register_at_sound registrations session pattern invoke None is ok =
    cond_both (is_full registrations session) (refused registrations fault.Limit)
    (record { registrations = with_registration registrations session pattern invoke; answer = Ok (registrations.last + 1) })
    (λ (r : Registered). AreSoundRegistrations r.registrations)
    (λ _. ok) (λ room. added_sound registrations session pattern invoke is (room_left registrations session room) ok)
register_at_sound registrations session pattern invoke (Some found) is ok =
    cond_both (not (may_join session invoke found)) (refused registrations fault.AlreadyExists)
    (cond (is_full registrations session) (refused registrations fault.Limit)
    (record { registrations = with_callee_at registrations session pattern; answer = Ok found.id }))
    (λ (r : Registered). AreSoundRegistrations r.registrations)
    (λ _. ok)
    (λ may. cond_both (is_full registrations session) (refused registrations fault.Limit)
    (record { registrations = with_callee_at registrations session pattern; answer = Ok found.id })
    (λ (r : Registered). AreSoundRegistrations r.registrations)
    (λ _. ok) (λ _. joined_sound registrations session pattern invoke found is (not-false (may_join session invoke found) may) ok))

pub register_sound : (registrations : Registrations) (session : ℕ) (pattern : PatternValue) (invoke : Invoke) → AreSoundRegistrations registrations
    → AreSoundRegistrations (register registrations session pattern invoke).registrations
register_sound registrations session pattern invoke ok =
    cond_both (is_reserved pattern.text) (refused registrations fault.InvalidUri)
    (register_at registrations session pattern invoke (registration_at registrations pattern))
    (λ (r : Registered). AreSoundRegistrations r.registrations)
    (λ _. ok) (λ _. register_at_sound registrations session pattern invoke (registration_at registrations pattern) refl ok)

-- ---- a session leaves

-- each callee is in it once, and at most one under `single`
record IsLeft (r : Registration) : Type 0 where
  callees : AllPairs (λ (a b : ℕ). a ≢ b) r.callees
  single : r.invoke ≡ Single → length r.callees ≤ 1

fewer : (test : ℕ → Bool) (xs : List ℕ) → length (filter test xs) ≤ length xs
fewer test [] = omega arith
fewer test (x ∷ xs) =
    let rest = fewer test xs in
    cond_both (test x) (x ∷ filter test xs) (filter test xs) (λ (ys : List ℕ). length ys ≤ length (x ∷ xs)) (λ _. omega arith) (λ _. omega arith)

without_left : (session : ℕ) (r : Registration) → IsSoundRegistration r → IsLeft (without_callee session r)
without_left session r ok = record {
  callees = AllPairs-filter (λ (a b : ℕ). a ≢ b) (λ member. not (member == session)) r.callees ok.callees;
  single = λ is. let one = ok.single is in let less = fewer (λ member. not (member == session)) r.callees in omega (arith, one, less);
}

sound_left : (r : Registration) → IsSoundRegistration r → IsLeft r
sound_left r ok = record { callees = ok.callees; single = λ is. let one = ok.single is in omega (arith, one) }

-- what passes a test is as it was, and passes it
All-passed : {X : Type 0} (test : X → Bool) (P : X → Type 0) (xs : List X) → All P xs
    → All (λ x. P x × (test x ≡ true)) (filter test xs)
All-passed test P [] h = All-nil (λ x. P x × (test x ≡ true))
All-passed test P (x ∷ xs) h =
    let rest = All-passed test P xs (All-tail P x xs h) in
    cond_both (test x) (x ∷ filter test xs) (filter test xs) (All (λ x. P x × (test x ≡ true)))
    (λ passes. All-cons (λ x. P x × (test x ≡ true)) x (filter test xs) (All-head P x xs h, passes) rest) (λ _. rest)

held_again : (r : Registration) → IsLeft r × (has_callees r ≡ true) → IsSoundRegistration r
held_again r h =
    let held = ltb-true 0 (length r.callees) h.1 in
    record { callees = h.0.callees; held = held; single = λ is. let one = h.0.single is in omega (arith, held, one) }

-- those without callees go
emptied_sound : (registrations : Registrations) (list : List Registration) → AreListed list registrations.last → registrations.last ≤ last_id
    → All IsLeft list → AreSoundRegistrations (with_list registrations (filter has_callees list))
emptied_sound registrations list ok last each =
    sound (with_list registrations (filter has_callees list)) (filtered_listed has_callees list registrations.last ok) last
    (All-weaker (λ (r : Registration). IsLeft r × (has_callees r ≡ true)) IsSoundRegistration held_again (filter has_callees list)
    (All-passed has_callees IsLeft list each))

pub leave_sound : (registrations : Registrations) (session : ℕ) → AreSoundRegistrations registrations → AreSoundRegistrations (leave registrations session)
leave_sound registrations session ok =
    emptied_sound registrations (map (without_callee session) registrations.list)
    (mapped_listed (without_callee session) (left_names session) registrations.list registrations.last (listed registrations ok)) ok.last
    (All-map IsLeft (without_callee session) registrations.list
    (All-weaker IsSoundRegistration (λ (r : Registration). IsLeft (without_callee session r)) (without_left session) registrations.list
    ok.each))

left_again : (session : ℕ) (r : Registration) → IsLeft r → IsLeft (without_callee session r)
left_again session r ok = record {
  callees = AllPairs-filter (λ (a b : ℕ). a ≢ b) (λ member. not (member == session)) r.callees ok.callees;
  single = λ is. let one = ok.single is in let less = fewer (λ member. not (member == session)) r.callees in omega (arith, one, less);
}

withdrawn_sound : (registrations : Registrations) (session id : ℕ) → AreSoundRegistrations registrations
    → AreSoundRegistrations (without_callee_of registrations session id)
withdrawn_sound registrations session id ok =
    emptied_sound registrations (change_first (has_id id) (without_callee session) registrations.list)
    (changed_listed (without_callee session) (left_names session) (has_id id) registrations.list registrations.last (listed registrations ok)) ok.last
    (All-change_first (has_id id) (without_callee session) IsLeft (left_again session) registrations.list
    (All-weaker IsSoundRegistration IsLeft sound_left registrations.list ok.each))

pub unregister_sound : (registrations : Registrations) (session id : ℕ) → AreSoundRegistrations registrations
    → AreSoundRegistrations (unregister registrations session id).registrations
unregister_sound registrations session id ok =
    cond_both (is_callee registrations session id) (record { registrations = without_callee_of registrations session id; answer = Ok tt })
    (record { registrations = registrations; answer = Err fault.NoSuchRegistration })
    (λ (r : Unregistered). AreSoundRegistrations r.registrations)
    (λ _. withdrawn_sound registrations session id ok) (λ _. ok)

-- ---- callees take turns

rotated_once : (xs : List ℕ) → AllPairs (λ (a b : ℕ). a ≢ b) xs → AllPairs (λ (a b : ℕ). a ≢ b) (rotated xs)
rotated_once [] once = once
rotated_once (x ∷ xs) once =
    let apart : All (λ (m : ℕ). m ≢ x) xs = All-weaker (λ (m : ℕ). x ≢ m) (λ (m : ℕ). m ≢ x) (λ m differ same. differ (sym same)) xs
    (AllPairs-head (λ (a b : ℕ). a ≢ b) x xs once) in
    all_pairs_push (λ (a b : ℕ). a ≢ b) xs x (AllPairs-tail (λ (a b : ℕ). a ≢ b) x xs once) (λ k d within. apart k d within)

rotated_long : (xs : List ℕ) → length (rotated xs) ≡ length xs
rotated_long [] = refl
rotated_long (x ∷ xs) = let long = length-append xs (x ∷ []) in omega (arith, long)

turned_one : (r : Registration) → IsSoundRegistration r → IsSoundRegistration (turned r)
turned_one r ok =
    cond_both (takes_turns r.invoke) (record r { callees = rotated r.callees }) r IsSoundRegistration
    (λ _. let long = rotated_long r.callees in record {
      callees = rotated_once r.callees ok.callees;
      held = let held = ok.held in omega (arith, long, held);
      single = λ is. long ∙ ok.single is;
    })
    (λ _. ok)

pub turn_sound : (registrations : Registrations) (id : ℕ) → AreSoundRegistrations registrations → AreSoundRegistrations (turn registrations id)
turn_sound registrations id ok =
    sound (turn registrations id)
    (changed_listed turned turned_names (has_id id) registrations.list registrations.last (listed registrations ok)) ok.last
    (All-change_first (has_id id) turned IsSoundRegistration turned_one registrations.list ok.each)

-- ---- whatever calls were made

call_sound : (registrations : Registrations) (call : Call) → AreSoundRegistrations registrations → AreSoundRegistrations (after_call registrations call)
call_sound registrations (Call.Register session pattern invoke) ok = register_sound registrations session pattern invoke ok
call_sound registrations (Call.Unregister session id) ok = unregister_sound registrations session id ok
call_sound registrations (Call.Leave session) ok = leave_sound registrations session ok
call_sound registrations (Call.Turn id) ok = turn_sound registrations id ok

calls_sound : (calls : List Call) (registrations : Registrations) → AreSoundRegistrations registrations → AreSoundRegistrations (after registrations calls)
calls_sound [] registrations ok = ok
calls_sound (call ∷ calls) registrations ok = calls_sound calls (after_call registrations call) (call_sound registrations call ok)

pub every_sound : (limit : ℕ) (calls : List Call) → AreSoundRegistrations (after (no_registrations limit) calls)
every_sound limit calls = calls_sound calls (no_registrations limit) (nothing_sound limit)
