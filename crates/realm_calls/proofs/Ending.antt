-- Calls that end one after the other: if no two share a caller and a request, each end takes out that one call.
use Rattle.std.proofs.Common.{◌≡◌, ℕ, Bool, true, false, not, cond, List, [], ◌∷◌, ◌++◌, filter, refl, sym, ap, subst}
use Rattle.std.proofs.Common.{◌∙◌, append_assoc}
use Rattle.std.specs.List.{All}
use Rattle.std.proofs.lemmas.Bool.{cond-true, cond-false, false_from_ne_true}
use Rattle.std.proofs.lemmas.List.Elements.{All-head, All-tail}
use Rattle.std.proofs.lemmas.List.Kept.{AllPairs-filter}
use Rattle.realm_sessions.proofs.Pairs.{AllPairs-head, AllPairs-tail}
use Rattle.realm_calls.specs.declared.calls.Open.{Open}
use Rattle.realm_calls.specs.Calls.{is_call, is_to, end, calls_to, without_callee, without_caller}
use Rattle.realm_calls.specs.Indexed.{by_request, of_caller, AreApart, end_all}
use Rattle.realm_calls.proofs.EndedCalls.{same_call}

abbrev Apart : Open → Open → Type 0
Apart a b = (key : ℕ × ℕ) → by_request key a ≡ true → by_request key b ≡ true → ⊥

-- calls that are apart from one stay when it ends
stay : (ended : Open) (list : List Open) → All (Apart ended) list → end list ended ≡ list
stay ended [] apart = refl
stay ended (call ∷ list) apart =
    let key : ℕ × ℕ = (ended.caller, ended.request) in
    let other : is_call ended.caller ended.request call ≡ false = false_from_ne_true (is_call ended.caller ended.request call)
    (λ here. All-head (Apart ended) call list apart key (same_call ended) here) in
    cond-true (not (is_call ended.caller ended.request call)) (call ∷ end list ended) (end list ended) (ap not other)
    ∙ ap (λ (rest : List Open). call ∷ rest) (stay ended list (All-tail (Apart ended) call list apart))

middle : (P : Open → Type 0) (kept : List Open) (call : Open) (list : List Open) → All P (kept ++ call ∷ list) → P call
middle P [] call list all = All-head P call list all
middle P (first ∷ kept) call list all = middle P kept call list (All-tail P first (kept ++ call ∷ list) all)

-- the end of a call in the midst leaves the others
end_one : (kept : List Open) (call : Open) (list : List Open) → AreApart (kept ++ call ∷ list)
    → end (kept ++ call ∷ list) call ≡ kept ++ list
end_one [] call list apart =
    cond-false (not (is_call call.caller call.request call)) (call ∷ end list call) (end list call) (ap not (same_call call))
    ∙ stay call list (AllPairs-head Apart call list apart)
end_one (first ∷ kept) call list apart =
    let from : Apart first call = middle (Apart first) kept call list (AllPairs-head Apart first (kept ++ call ∷ list) apart) in
    let other : is_call call.caller call.request first ≡ false = false_from_ne_true (is_call call.caller call.request first)
    (λ here. from (call.caller, call.request) here (same_call call)) in
    let rest = kept ++ call ∷ list in
    cond-true (not (is_call call.caller call.request first)) (first ∷ end rest call) (end rest call) (ap not other)
    ∙ ap (λ (left : List Open). first ∷ left) (end_one kept call list (AllPairs-tail Apart first rest apart))

all_step : (test : Open → Bool) (kept : List Open) (call : Open) (list : List Open) (b : Bool) → AreApart (kept ++ call ∷ list)
    → ((kept : List Open) → AreApart (kept ++ list)
    → end_all (kept ++ list) (filter test list) ≡ kept ++ filter (λ call. not (test call)) list)
    → end_all (kept ++ call ∷ list) (cond b (call ∷ filter test list) (filter test list))
    ≡ kept ++ cond (not b) (call ∷ filter (λ call. not (test call)) list) (filter (λ call. not (test call)) list)
all_step test kept call list true apart rest =
    let left = end_one kept call list apart in
    let still : AreApart (kept ++ list) = subst AreApart left
    (AllPairs-filter Apart (λ other. not (is_call call.caller call.request other)) (kept ++ call ∷ list) apart) in
    ap (λ (before : List Open). end_all before (filter test list)) left ∙ rest kept still
all_step test kept call list false apart rest =
    let moved : (kept ++ call ∷ []) ++ list ≡ kept ++ call ∷ list = append_assoc kept (call ∷ []) list in
    let others = filter (λ call. not (test call)) list in
    ap (λ (before : List Open). end_all before (filter test list)) (sym moved)
    ∙ rest (kept ++ call ∷ []) (subst AreApart (sym moved) apart)
    ∙ append_assoc kept (call ∷ []) others

-- if those that pass end, the others are left
pub ended_all : (test : Open → Bool) (list kept : List Open) → AreApart (kept ++ list)
    → end_all (kept ++ list) (filter test list) ≡ kept ++ filter (λ call. not (test call)) list
ended_all test [] kept apart = refl
ended_all test (call ∷ list) kept apart =
    all_step test kept call list (test call) apart (λ kept apart. ended_all test list kept apart)

pub ended_to : (session : ℕ) (list : List Open) → AreApart list → end_all list (calls_to list session) ≡ without_callee list session
ended_to session list apart = ended_all (is_to session) list [] apart

pub ended_of : (session : ℕ) (list : List Open) → AreApart list
    → end_all list (filter (of_caller session) list) ≡ without_caller list session
ended_of session list apart = ended_all (of_caller session) list [] apart
