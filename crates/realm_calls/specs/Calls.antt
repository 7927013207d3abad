-- Open calls in order of opening, and how they end (WAMP specification, "Remote Procedure Calls", "Call Canceling"; the limit of open
-- calls, and how they end with a session, is this profile's: docs/PROTOCOL.md, "The realm").
use Rattle.std.specs.Prelude.{ℕ, ◌==◌, Bool, true, false, not, ◌&&◌, nat_lt, List, ◌∷◌, [], ◌++◌, length, map, filter, find, Option}
use Rattle.std.specs.Prelude.{None, Some, Result, Ok, Err, if◌then◌else◌}
use Rattle.std.specs.List.{list_any}
use Rattle.wamp_ids.specs.declared.policy.Mode.{Mode}
use Rattle.wamp_ids.specs.declared.policy.Mode.TheVariants.{Skip, Kill, KillNoWait}
use Rattle.realm_sessions.specs.declared.fault.RealmFault.{RealmFault}
use Rattle.realm_sessions.specs.declared.fault.RealmFault.TheVariants.{NotOpen}
use Rattle.realm_calls.specs.declared.calls.Open.{Open}
use Rattle.realm_calls.specs.declared.calls.Cancelled.{Cancelled}

pub record Calls : Type 0 where
  -- at most this many of a caller may be open at a time
  pub limit : ℕ
  -- the open calls in order of opening
  pub list : List Open

abbrev pub with_list : Calls → List Open → Calls
with_list calls list = record { limit = calls.limit; list = list }

-- the call of this caller under this request
abbrev pub is_call : ℕ → ℕ → Open → Bool
is_call caller request call = call.caller == caller && call.request == request

-- the call that this callee knows as this invocation
abbrev pub is_invocation : ℕ → ℕ → Open → Bool
is_invocation callee invocation call = call.callee == callee && call.invocation == invocation

-- the caller's request is open
abbrev pub has : List Open → ℕ → ℕ → Bool
has list caller request = list_any (is_call caller request) list

-- the callee's invocation is open
abbrev pub has_invocation : List Open → ℕ → ℕ → Bool
has_invocation list callee invocation = list_any (is_invocation callee invocation) list

abbrev pub call_of : List Open → ℕ → ℕ → Option Open
call_of list caller request = find (is_call caller request) list

-- the open call of this invocation; it stays open
abbrev pub peek : List Open → ℕ → ℕ → Option Open
peek list callee invocation = find (is_invocation callee invocation) list

-- ---- opening

-- how many of the calls are the caller's
abbrev pub count_of : List Open → ℕ → ℕ
count_of list caller = length (filter (λ (call : Open). call.caller == caller) list)

-- the caller has as many open calls as it may have
abbrev pub is_full : Calls → ℕ → Bool
is_full calls caller = not (nat_lt (count_of calls.list caller) calls.limit)

-- `progress`: whether the caller takes progressive results
abbrev pub open_call : ℕ → ℕ → ℕ → ℕ → Bool → Open
open_call caller request callee invocation progress =
    record { caller = caller; request = request; callee = callee; invocation = invocation; progress = progress }

abbrev pub with_call : Calls → Open → Calls
with_call calls call = with_list calls (calls.list ++ call ∷ [])

-- the invocations that the callee has not answered
abbrev pub open_of : List Open → ℕ → List ℕ
open_of list callee = map (λ (call : Open). call.invocation) (filter (λ (call : Open). call.callee == callee) list)

-- ---- ending

-- the call ends
abbrev pub end : List Open → Open → List Open
end list call = filter (λ other. not (is_call call.caller call.request other)) list

-- what becomes of the calls when one is answered, and which one it is
pub record AfterAnswer : Type 0 where
  pub calls : Calls
  pub answer : Result Open RealmFault

abbrev pub answer_found : Calls → Option Open → AfterAnswer
answer_found calls None = record { calls = calls; answer = Err NotOpen }
answer_found calls (Some call) = record { calls = with_list calls (end calls.list call); answer = Ok call }

-- the callee answers this invocation
abbrev pub answer : Calls → ℕ → ℕ → AfterAnswer
answer calls callee invocation = answer_found calls (peek calls.list callee invocation)

-- what becomes of a call that is canceled; a callee that did not announce canceling is not interrupted
abbrev pub cancel_one : Open → Mode → Bool → Cancelled
cancel_one call mode false = record { call = call; is_ended = true; interrupt = None }
cancel_one call Skip true = record { call = call; is_ended = true; interrupt = None }
cancel_one call Kill true = record { call = call; is_ended = false; interrupt = Some Kill }
cancel_one call KillNoWait true = record { call = call; is_ended = true; interrupt = Some KillNoWait }

-- what becomes of the calls then
abbrev pub without_cancelled : Calls → Cancelled → Calls
without_cancelled calls it = if it.is_ended then with_list calls (end calls.list it.call) else calls

pub record AfterCancel : Type 0 where
  pub calls : Calls
  pub answer : Result Cancelled RealmFault

abbrev pub cancel_found : Calls → Mode → Bool → Option Open → AfterCancel
cancel_found calls mode announces None = record { calls = calls; answer = Err NotOpen }
cancel_found calls mode announces (Some call) = record {
  calls = without_cancelled calls (cancel_one call mode announces);
  answer = Ok (cancel_one call mode announces);
}

-- the caller cancels the call of this request, whose callee announced canceling, or did not
abbrev pub cancel : Calls → ℕ → ℕ → Mode → Bool → AfterCancel
cancel calls caller request mode announces = cancel_found calls mode announces (call_of calls.list caller request)

-- ---- leaving

-- a call to this session by another
abbrev pub is_to : ℕ → Open → Bool
is_to session call = call.callee == session && not (call.caller == session)

-- a call by this session to another
abbrev pub is_by : ℕ → Open → Bool
is_by session call = call.caller == session && not (call.callee == session)

-- neither by the session nor to it
abbrev pub is_other : ℕ → Open → Bool
is_other session call = not (call.caller == session) && not (call.callee == session)

-- the calls to a session by others, which end when it leaves as a callee
abbrev pub calls_to : List Open → ℕ → List Open
calls_to list session = filter (is_to session) list

-- the calls by a session to others, which end when it leaves as a caller
abbrev pub calls_by : List Open → ℕ → List Open
calls_by list session = filter (is_by session) list

-- what is left after a callee has left; a call to itself stays
abbrev pub without_callee : List Open → ℕ → List Open
without_callee list session = filter (λ call. not (is_to session call)) list

-- what is left after a caller has left; a call to itself ends, too
abbrev pub without_caller : List Open → ℕ → List Open
without_caller list session = filter (λ (call : Open). not (call.caller == session)) list

-- what is left after a session has left
abbrev pub without_session : List Open → ℕ → List Open
without_session list session = filter (is_other session) list
