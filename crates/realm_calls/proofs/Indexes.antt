-- What finds the open calls goes on finding them.
use Rattle.std.proofs.Common.{◌≡◌, ℕ, ◌+◌, ◌-◌, ◌==◌, Bool, true, false, cond, List, [], ◌∷◌, ◌++◌, Option, None, Some}
use Rattle.std.proofs.Common.{refl, sym, ap, ◌∙◌, arith, if◌then◌else◌}
use Rattle.std.specs.List.{All}
use Rattle.std.proofs.lemmas.Bool.{and_from, eq-eqb, false≢true}
use Rattle.realm_lists.specs.OrderedList.{IsAbove, members, member_at, without, has_place}
use Rattle.realm_lists.specs.Finding.{AreRising, Finds, IsIndex, is_passing}
use Rattle.realm_lists.specs.PlaceIndex.{is_key, place_of, places_under}
use Rattle.realm_lists.specs.Tally.{count_in}
use Rattle.realm_lists.proofs.Members.{count_without, count_pushed, members_pushed}
use Rattle.realm_lists.proofs.Telling.{index_came, index_back, index_gone}
use Rattle.realm_lists.proofs.Under.{place_is_under}
use Rattle.realm_lists.proofs.Keys.{is_key_same}
use Rattle.realm_calls.specs.declared.calls.Open.{Open}
use Rattle.realm_calls.specs.Calls.{has, has_invocation, count_of}
use Rattle.realm_calls.specs.Indexed.{by_request, by_invocation, AreIndexed, of_caller, of_callee}

one_less : (b : Bool) (counted before after left : ℕ) → counted ≡ cond b (before - 1) before → before ≡ after
    → left + cond b 1 0 ≡ after → counted ≡ left
one_less true counted before after left is same all = omega (arith, is, same, all)
one_less false counted before after left is same all = omega (arith, is, same, all)

one_more : (b : Bool) (counted before after more : ℕ) → counted ≡ cond b (before + 1) before → before ≡ after
    → more ≡ after + cond b 1 0 → counted ≡ more
one_more true counted before after more is same all = omega (arith, is, same, all)
one_more false counted before after more is same all = omega (arith, is, same, all)

undone : (b : Bool) (counted between before after : ℕ) → counted ≡ cond b (between - 1) between
    → between ≡ cond b (before + 1) before → before ≡ after → counted ≡ after
undone true counted between before after is was same = omega (arith, is, was, same)
undone false counted between before after is was same = omega (arith, is, was, same)

-- one call more of its caller is counted
pub counted_more : (rows : List (ℕ × Open)) (place : ℕ) (call : Open) (counts new_counts : List (ℕ × ℕ))
    → ((caller : ℕ) → count_in new_counts caller
    ≡ (if call.caller == caller then count_in counts caller + 1 else count_in counts caller))
    → ((caller : ℕ) → count_in counts caller ≡ count_of (members rows) caller)
    → (caller : ℕ) → count_in new_counts caller ≡ count_of (members (rows ++ (place, call) ∷ [])) caller
counted_more rows place call counts new_counts told counted caller =
    one_more (call.caller == caller) (count_in new_counts caller) (count_in counts caller) (count_of (members rows) caller)
    (count_of (members (rows ++ (place, call) ∷ [])) caller) (told caller) (counted caller)
    (ap (λ (list : List Open). count_of list caller) (members_pushed rows place call)
    ∙ count_pushed (λ (call : Open). call.caller == caller) (members rows) call)

-- and not any more
pub counted_again : (rows : List (ℕ × Open)) (call : Open) (counts between new_counts : List (ℕ × ℕ))
    → ((caller : ℕ) → count_in new_counts caller
    ≡ (if call.caller == caller then count_in between caller - 1 else count_in between caller))
    → ((caller : ℕ) → count_in between caller
    ≡ (if call.caller == caller then count_in counts caller + 1 else count_in counts caller))
    → ((caller : ℕ) → count_in counts caller ≡ count_of (members rows) caller)
    → (caller : ℕ) → count_in new_counts caller ≡ count_of (members rows) caller
counted_again rows call counts between new_counts told was counted caller =
    undone (call.caller == caller) (count_in new_counts caller) (count_in between caller) (count_in counts caller)
    (count_of (members rows) caller) (told caller) (was caller) (counted caller)

-- a call comes as the last one
pub indexed_with : (rows : List (ℕ × Open)) (requests invocations new_requests new_invocations : List ((ℕ × ℕ) × ℕ))
    (counts new_counts : List (ℕ × ℕ)) (place : ℕ) (call : Open) → IsAbove place rows
    → has (members rows) call.caller call.request ≡ false → has_invocation (members rows) call.callee call.invocation ≡ false
    → ((key : ℕ × ℕ) → place_of new_requests key
    ≡ (if is_key (call.caller, call.request) key then Some place else place_of requests key))
    → ((key : ℕ × ℕ) → place_of new_invocations key
    ≡ (if is_key (call.callee, call.invocation) key then Some place else place_of invocations key))
    → ((caller : ℕ) → count_in new_counts caller ≡ count_of (members (rows ++ (place, call) ∷ [])) caller)
    → AreIndexed rows requests invocations counts
    → AreIndexed (rows ++ (place, call) ∷ []) new_requests new_invocations new_counts
indexed_with rows requests invocations new_requests new_invocations counts new_counts place call above new free put_request put_invocation
    counted ok = record {
      requests_index = index_came is_key is_key_same by_request (place_of requests) (place_of new_requests) rows place call
          (call.caller, call.request) (λ other. refl) above new put_request ok.requests_index;
      invocations_index = index_came is_key is_key_same by_invocation (place_of invocations) (place_of new_invocations) rows place call
          (call.callee, call.invocation) (λ other. refl) above free put_invocation ok.invocations_index;
      counted = counted;
    }

-- a request that was put is removed again
pub request_back : (rows : List (ℕ × Open)) (requests between new_requests : List ((ℕ × ℕ) × ℕ)) (place : ℕ) (call : Open)
    → has (members rows) call.caller call.request ≡ false
    → ((key : ℕ × ℕ) → place_of between key ≡ (if is_key (call.caller, call.request) key then Some place else place_of requests key))
    → ((key : ℕ × ℕ) → place_of new_requests key ≡ (if is_key (call.caller, call.request) key then None else place_of between key))
    → IsIndex by_request (place_of requests) rows → IsIndex by_request (place_of new_requests) rows
request_back rows requests between new_requests place call new put removed ok =
    index_back is_key is_key_same by_request (place_of requests) (place_of between) (place_of new_requests) rows place
    (call.caller, call.request) new put removed ok

-- and so is an invocation
pub invocation_back : (rows : List (ℕ × Open)) (invocations between new_invocations : List ((ℕ × ℕ) × ℕ)) (place : ℕ) (call : Open)
    → has_invocation (members rows) call.callee call.invocation ≡ false
    → ((key : ℕ × ℕ) → place_of between key
    ≡ (if is_key (call.callee, call.invocation) key then Some place else place_of invocations key))
    → ((key : ℕ × ℕ) → place_of new_invocations key
    ≡ (if is_key (call.callee, call.invocation) key then None else place_of between key))
    → IsIndex by_invocation (place_of invocations) rows → IsIndex by_invocation (place_of new_invocations) rows
invocation_back rows invocations between new_invocations place call free put removed ok =
    index_back is_key is_key_same by_invocation (place_of invocations) (place_of between) (place_of new_invocations) rows place
    (call.callee, call.invocation) free put removed ok

-- a call ends
pub indexed_without : (rows : List (ℕ × Open)) (requests invocations new_requests new_invocations : List ((ℕ × ℕ) × ℕ))
    (counts new_counts : List (ℕ × ℕ)) (place : ℕ) (call : Open) → AreRising rows → member_at place rows ≡ Some call
    → ((key : ℕ × ℕ) → place_of new_requests key
    ≡ (if is_key (call.caller, call.request) key then None else place_of requests key))
    → ((key : ℕ × ℕ) → place_of new_invocations key
    ≡ (if is_key (call.callee, call.invocation) key then None else place_of invocations key))
    → ((caller : ℕ) → count_in new_counts caller
    ≡ (if call.caller == caller then count_in counts caller - 1 else count_in counts caller))
    → AreIndexed rows requests invocations counts → AreIndexed (without place rows) new_requests new_invocations new_counts
indexed_without rows requests invocations new_requests new_invocations counts new_counts place call rising there gone_request
    gone_invocation gone_count ok = record {
      requests_index = index_gone is_key by_request (place_of requests) (place_of new_requests) rows place call (call.caller, call.request)
          (λ other. refl) rising there gone_request ok.requests_index;
      invocations_index = index_gone is_key by_invocation (place_of invocations) (place_of new_invocations) rows place call
          (call.callee, call.invocation) (λ other. refl) rising there gone_invocation ok.invocations_index;
      counted = λ caller. one_less (call.caller == caller) (count_in new_counts caller) (count_in counts caller)
          (count_of (members rows) caller) (count_of (members (without place rows)) caller) (gone_count caller) (ok.counted caller)
          (count_without (λ (call : Open). call.caller == caller) place rows call there);
    }

-- a session's calls are at the places under its number
pub callers_are_under : (requests : List ((ℕ × ℕ) × ℕ)) (rows : List (ℕ × Open)) (session : ℕ) → Finds by_request (place_of requests) rows
    → All (λ (row : ℕ × Open). of_caller session row.1 ≡ true → has_place (places_under requests session) row.0 ≡ true) rows
callers_are_under requests rows session finds k d within here =
    place_is_under requests (session, _) _ (finds (session, _) k d within (and_from _ _ here (eq-eqb _ _ refl)))

pub callees_are_under : (invocations : List ((ℕ × ℕ) × ℕ)) (rows : List (ℕ × Open)) (session : ℕ)
    → Finds by_invocation (place_of invocations) rows
    → All (λ (row : ℕ × Open). of_callee session row.1 ≡ true → has_place (places_under invocations session) row.0 ≡ true) rows
callees_are_under invocations rows session finds k d within here =
    place_is_under invocations (session, _) _ (finds (session, _) k d within (and_from _ _ here (eq-eqb _ _ refl)))

-- what an index gives is there
pub nothing_untold : {T : Type 0} (test : T → Bool) (there : Option T) → is_passing test there ≡ true → there ≡ None → ⊥
nothing_untold test there passes none = false≢true (sym (ap (is_passing test) none) ∙ passes)
