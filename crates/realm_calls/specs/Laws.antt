-- Laws of open calls, over whatever is made of them.
use Rattle.std.specs.Prelude.{◌≡◌, ℕ, Bool, false, List, [], AllPairs}
use Rattle.wamp_ids.specs.declared.policy.Mode.{Mode}
use Rattle.realm_sessions.specs.Links.{has_number}
use Rattle.realm_calls.specs.declared.calls.Open.{Open}
use Rattle.realm_calls.specs.Calls.{Calls, is_call, is_invocation, has, has_invocation, open_of, with_call, end, answer, cancel}
use Rattle.realm_calls.specs.Calls.{calls_by, without_callee, without_caller, without_session}

-- not the calls of one caller under one request
abbrev pub AreOtherRequests : Open → Open → Type 0
AreOtherRequests a b = is_call b.caller b.request a ≡ false

-- not one callee's calls under one invocation
abbrev pub AreOtherInvocations : Open → Open → Type 0
AreOtherInvocations a b = is_invocation b.callee b.invocation a ≡ false

pub record AreSoundCalls (list : List Open) : Type 0 where
  -- no two open calls have one caller and request
  pub requests : AllPairs AreOtherRequests list
  -- nor one callee and invocation
  pub invocations : AllPairs AreOtherInvocations list

abbrev pub NoneAreSound : Type 0
NoneAreSound = AreSoundCalls []

-- if neither the caller's request is open nor the callee's invocation
abbrev pub OpenKeepsSound : Type 0
OpenKeepsSound = (calls : Calls) (call : Open) → has calls.list call.caller call.request ≡ false
    → has_number (open_of calls.list call.callee) call.invocation ≡ false
    → AreSoundCalls calls.list → AreSoundCalls (with_call calls call).list

abbrev pub AnswerKeepsSound : Type 0
AnswerKeepsSound = (calls : Calls) (callee invocation : ℕ)
    → AreSoundCalls calls.list → AreSoundCalls (answer calls callee invocation).calls.list

abbrev pub CancelKeepsSound : Type 0
CancelKeepsSound = (calls : Calls) (caller request : ℕ) (mode : Mode) (announces : Bool)
    → AreSoundCalls calls.list → AreSoundCalls (cancel calls caller request mode announces).calls.list

abbrev pub CalleeKeepsSound : Type 0
CalleeKeepsSound = (list : List Open) (session : ℕ) → AreSoundCalls list → AreSoundCalls (without_callee list session)

abbrev pub CallerKeepsSound : Type 0
CallerKeepsSound = (list : List Open) (session : ℕ) → AreSoundCalls list → AreSoundCalls (without_caller list session)

-- ---- what has ended is gone

-- an invocation is answered once
abbrev pub AnsweredOnce : Type 0
AnsweredOnce = (calls : Calls) (callee invocation : ℕ) → AreSoundCalls calls.list
    → has_invocation (answer calls callee invocation).calls.list callee invocation ≡ false

-- a call that has ended is open no more
abbrev pub EndedIsGone : Type 0
EndedIsGone = (list : List Open) (call : Open) → has (end list call) call.caller call.request ≡ false

-- after a session has left as a callee and then as a caller, no call is by it or to it, and no other is touched
abbrev pub LeavingEndsAll : Type 0
LeavingEndsAll = (list : List Open) (session : ℕ) → without_caller (without_callee list session) session ≡ without_session list session

-- and the second step names the same calls as if it were the first
abbrev pub LeavingNamesAll : Type 0
LeavingNamesAll = (list : List Open) (session : ℕ) → calls_by (without_callee list session) session ≡ calls_by list session
