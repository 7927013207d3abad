-- No two open calls have one caller and request, nor one callee and invocation.
use Rattle.std.proofs.Common.{◌≡◌, ℕ, ◌==◌, Bool, ◌&&◌, ◌||◌, List, [], ◌∷◌, map, filter, find, Option, None, Some, refl, ap}
use Rattle.std.proofs.Common.{◌∙◌, not}
use Rattle.std.proofs.lemmas.Bool.{cond_both}
use Rattle.std.proofs.lemmas.List.Kept.{AllPairs-filter}
use Rattle.std.proofs.lemmas.List.Quantifiers.{all_pairs_push}
use Rattle.wamp_ids.specs.declared.policy.Mode.{Mode}
use Rattle.realm_sessions.specs.Links.{has_number}
use Rattle.realm_sessions.proofs.Pairs.{AllPairs-nil, All-none}
use Rattle.realm_calls.specs.declared.calls.Open.{Open}
use Rattle.realm_calls.specs.Calls.{Calls, with_list, is_call, is_invocation, has_invocation, call_of, open_of, end, answer_found, cancel_one}
use Rattle.realm_calls.specs.Calls.{cancel_found, is_to}
use Rattle.realm_calls.specs.Laws.{AreOtherRequests, AreOtherInvocations, AreSoundCalls, NoneAreSound, OpenKeepsSound, AnswerKeepsSound}
use Rattle.realm_calls.specs.Laws.{CancelKeepsSound, CalleeKeepsSound, CallerKeepsSound}

pub nothing_sound : NoneAreSound
nothing_sound = record { requests = AllPairs-nil AreOtherRequests; invocations = AllPairs-nil AreOtherInvocations }

-- what is left of sound calls is sound
pub kept_sound : (test : Open → Bool) (list : List Open) → AreSoundCalls list → AreSoundCalls (filter test list)
kept_sound test list ok = record {
  requests = AllPairs-filter AreOtherRequests test list ok.requests;
  invocations = AllPairs-filter AreOtherInvocations test list ok.invocations;
}

-- the open invocations of a callee are those of its open calls
pub number_is : (list : List Open) (callee invocation : ℕ)
    → has_invocation list callee invocation ≡ has_number (open_of list callee) invocation
number_is [] callee invocation = refl
number_is (call ∷ list) callee invocation =
    let others = filter (λ (other : Open). other.callee == callee) list in
    cond_both (call.callee == callee) (call ∷ others) others
    (λ (kept : List Open). (call.callee == callee && call.invocation == invocation) || has_invocation list callee invocation
    ≡ has_number (map (λ (other : Open). other.invocation) kept) invocation)
    (λ here. rw here (ap (λ (b : Bool). (call.invocation == invocation) || b) (number_is list callee invocation)))
    (λ off. rw off (number_is list callee invocation))

pub opened_sound : OpenKeepsSound
opened_sound calls call new free ok =
    let requests = All-none (is_call call.caller call.request) calls.list new in
    let invocations = All-none (is_invocation call.callee call.invocation) calls.list
    (number_is calls.list call.callee call.invocation ∙ free) in
    record {
      requests = all_pairs_push AreOtherRequests calls.list call ok.requests (λ k d within. requests k d within);
      invocations = all_pairs_push AreOtherInvocations calls.list call ok.invocations (λ k d within. invocations k d within);
    }

answered_with : (calls : Calls) (found : Option Open) → AreSoundCalls calls.list → AreSoundCalls (answer_found calls found).calls.list
answered_with calls None ok = ok
answered_with calls (Some call) ok = kept_sound (λ other. not (is_call call.caller call.request other)) calls.list ok

pub answered_sound : AnswerKeepsSound
answered_sound calls callee invocation ok = answered_with calls (find (is_invocation callee invocation) calls.list) ok

canceled_with : (calls : Calls) (mode : Mode) (announces : Bool) (found : Option Open)
    → AreSoundCalls calls.list → AreSoundCalls (cancel_found calls mode announces found).calls.list
canceled_with calls mode announces None ok = ok
canceled_with calls mode announces (Some call) ok =
    let it = cancel_one call mode announces in
    cond_both it.is_ended (with_list calls (end calls.list it.call)) calls (λ (left : Calls). AreSoundCalls left.list)
    (λ _. kept_sound (λ other. not (is_call it.call.caller it.call.request other)) calls.list ok)
    (λ _. ok)

pub canceled_sound : CancelKeepsSound
canceled_sound calls caller request mode announces ok = canceled_with calls mode announces (call_of calls.list caller request) ok

pub callee_sound : CalleeKeepsSound
callee_sound list session ok = kept_sound (λ call. not (is_to session call)) list ok

pub caller_sound : CallerKeepsSound
caller_sound list session ok = kept_sound (λ (call : Open). not (call.caller == session)) list ok
