-- What has ended is gone.
use Rattle.std.proofs.Common.{◌≡◌, ℕ, ◌==◌, Bool, true, false, not, ◌&&◌, List, [], ◌∷◌, filter, find, Option, None, Some, refl, sym, ap, ◌∙◌}
use Rattle.std.specs.List.{All, list_any}
use Rattle.std.proofs.lemmas.Bool.{cond_both, cond-false, and_parts, and_from, eqb-true, eq-eqb, both_ways, not-true}
use Rattle.std.proofs.lemmas.Bool.{false_from_ne_true}
use Rattle.std.proofs.lemmas.List.Elements.{All-weaker, All-filter, filter_passes}
use Rattle.std.proofs.lemmas.List.Folds.{list_any_none}
use Rattle.realm_sessions.proofs.Pairs.{All-both, All-found, All-not_found, AllPairs-weaker}
use Rattle.realm_calls.specs.declared.calls.Open.{Open}
use Rattle.realm_calls.specs.Calls.{Calls, is_call, is_invocation, has_invocation, answer_found, is_to, is_by, is_other, calls_by}
use Rattle.realm_calls.specs.Laws.{AreOtherInvocations, AreSoundCalls, AnsweredOnce, EndedIsGone, LeavingEndsAll, LeavingNamesAll}

-- if all that pass a test are taken out, none passes it
gone : (test out : Open → Bool) (list : List Open) → All (λ call. test call ≡ true → out call ≡ true) list
    → list_any test (filter (λ call. not (out call)) list) ≡ false
gone test out list passes =
    let keep : Open → Bool = λ call. not (out call) in
    let Goes : Open → Type 0 = λ call. test call ≡ true → out call ≡ true in
    list_any_none test (filter keep list)
    (All-weaker (λ call. Goes call × (keep call ≡ true)) (λ call. test call ≡ false)
    (λ call h. false_from_ne_true (test call) (λ here. both_ways (out call) (not-true (out call) h.1) (h.0 here)))
    (filter keep list)
    (All-both Goes (λ call. keep call ≡ true) (filter keep list) (All-filter keep Goes list passes) (filter_passes keep list)))

-- ---- an invocation is answered once

pub same_call : (call : Open) → is_call call.caller call.request call ≡ true
same_call call =
    and_from (call.caller == call.caller) (call.request == call.request) (eq-eqb call.caller call.caller refl)
    (eq-eqb call.request call.request refl)

-- no two calls are one callee's under one invocation
apart : (callee invocation : ℕ) (a b : Open) → AreOtherInvocations a b → is_invocation callee invocation a ≡ true
    → is_invocation callee invocation b ≡ true → ⊥
apart callee invocation a b other at_a at_b =
    let parts = and_parts (b.callee == callee) (b.invocation == invocation) at_b in
    let same : is_invocation b.callee b.invocation a ≡ is_invocation callee invocation a =
    λ i. is_invocation (eqb-true b.callee callee parts.0 i) (eqb-true b.invocation invocation parts.1 i) a in
    both_ways (is_invocation b.callee b.invocation a) other (same ∙ at_a)

answered : (calls : Calls) (callee invocation : ℕ) → AreSoundCalls calls.list → (found : Option Open)
    → find (is_invocation callee invocation) calls.list ≡ found
    → has_invocation (answer_found calls found).calls.list callee invocation ≡ false
answered calls callee invocation ok None e =
    list_any_none (is_invocation callee invocation) calls.list (All-not_found (is_invocation callee invocation) calls.list e)
answered calls callee invocation ok (Some call) e =
    let test = is_invocation callee invocation in
    gone test (is_call call.caller call.request) calls.list
    (All-found test (λ other. is_call call.caller call.request other ≡ true) calls.list call e (same_call call)
    (AllPairs-weaker AreOtherInvocations (λ a b. test a ≡ true → test b ≡ true → ⊥) (apart callee invocation) calls.list
    ok.invocations))

pub answered_once : AnsweredOnce
answered_once calls callee invocation ok =
    answered calls callee invocation ok (find (is_invocation callee invocation) calls.list) refl

pub ended_gone : EndedIsGone
ended_gone list call = gone (is_call call.caller call.request) (is_call call.caller call.request) list (λ k d within here. here)

-- ---- leaving

-- two tests, one after the other, are one
pub filter_both : (p q r : Open → Bool) → ((call : Open) → (q call && p call) ≡ r call) → (list : List Open)
    → filter p (filter q list) ≡ filter r list
filter_both p q r same [] = refl
filter_both p q r same (call ∷ list) =
    let rest = filter_both p q r same list in
    cond_both (q call) (call ∷ filter q list) (filter q list) (λ (kept : List Open). filter p kept ≡ filter r (call ∷ list))
    (λ here. kept_too here rest)
    (λ off. rest ∙ sym (cond-false (r call) (call ∷ filter r list) (filter r list) (sym (same call) ∙ ap (λ (b : Bool). b && p call) off)))
  where
    kept_too : q call ≡ true → filter p (filter q list) ≡ filter r list → filter p (call ∷ filter q list) ≡ filter r (call ∷ list)
    kept_too here rest =
        let is : p call ≡ r call = ap (λ (b : Bool). b && p call) (sym here) ∙ same call in
        rw (is, rest) refl

left_both : (by to : Bool) → (not (to && not by) && not by) ≡ (not by && not to)
left_both true true = refl
left_both true false = refl
left_both false true = refl
left_both false false = refl

twice : (by to : Bool) → (by && (by && not to)) ≡ (by && not to)
twice true to = refl
twice false to = refl

named_both : (by to : Bool) → (not (to && not by) && (by && not to)) ≡ (by && not to)
named_both true true = refl
named_both true false = refl
named_both false true = refl
named_both false false = refl

pub leaving_ends_all : LeavingEndsAll
leaving_ends_all list session =
    filter_both (λ (call : Open). not (call.caller == session)) (λ call. not (is_to session call)) (is_other session)
    (λ call. left_both (call.caller == session) (call.callee == session)) list

pub leaving_names_all : LeavingNamesAll
leaving_names_all list session =
    filter_both (is_by session) (λ call. not (is_to session call)) (is_by session)
    (λ call. named_both (call.caller == session) (call.callee == session)) list

-- among a caller's calls, those to others
pub named_of_caller : (list : List Open) (session : ℕ)
    → calls_by (filter (λ (call : Open). call.caller == session) list) session ≡ calls_by list session
named_of_caller list session =
    filter_both (is_by session) (λ (call : Open). call.caller == session) (is_by session)
    (λ call. twice (call.caller == session) (call.callee == session)) list
