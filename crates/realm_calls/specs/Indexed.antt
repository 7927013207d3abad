-- How open calls are kept, so that one is found without a walk over all.
use Rattle.std.specs.Prelude.{◌≡◌, ℕ, ◌==◌, Bool, true, List, [], ◌∷◌, AllPairs}
use Rattle.realm_lists.specs.OrderedList.{members}
use Rattle.realm_lists.specs.Finding.{IsIndex}
use Rattle.realm_lists.specs.PlaceIndex.{place_of}
use Rattle.realm_lists.specs.Tally.{count_in}
use Rattle.realm_calls.specs.declared.calls.Open.{Open}
use Rattle.realm_calls.specs.Calls.{is_call, is_invocation, count_of, end}

-- a caller and a request
abbrev pub by_request : ℕ × ℕ → Open → Bool
by_request key call = is_call key.0 key.1 call

-- a callee and an invocation
abbrev pub by_invocation : ℕ × ℕ → Open → Bool
by_invocation key call = is_invocation key.0 key.1 call

pub record AreIndexed (rows : List (ℕ × Open)) (requests invocations : List ((ℕ × ℕ) × ℕ)) (counts : List (ℕ × ℕ)) : Type 0 where
  pub requests_index : IsIndex by_request (place_of requests) rows
  pub invocations_index : IsIndex by_invocation (place_of invocations) rows
  pub counted : (caller : ℕ) → count_in counts caller ≡ count_of (members rows) caller

-- the calls of a caller
abbrev pub of_caller : ℕ → Open → Bool
of_caller session call = call.caller == session

-- the calls to a callee
abbrev pub of_callee : ℕ → Open → Bool
of_callee session call = call.callee == session

-- no caller has two calls under one request
abbrev pub AreApart : List Open → Type 0
AreApart list = AllPairs (λ (a b : Open). (key : ℕ × ℕ) → by_request key a ≡ true → by_request key b ≡ true → ⊥) list

-- these calls end, one after the other
abbrev pub end_all : List Open → List Open → List Open
end_all list [] = list
end_all list (call ∷ ended) = end_all (end list call) ended
