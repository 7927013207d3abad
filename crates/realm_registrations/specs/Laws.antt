-- Laws of registrations: what holds whatever calls were made.
use Rattle.std.specs.Prelude.{◌≡◌, ◌≢◌, ℕ, ◌<◌, ◌≤◌, List, length, fold, All, AllPairs, is_some}
use Rattle.std.specs.List.{list_any}
use Rattle.wamp_ids.specs.declared.policy.Invoke.{Invoke}
use Rattle.wamp_ids.specs.declared.policy.Invoke.TheVariants.{Single}
use Rattle.wamp_ids.specs.Id.{last_id}
use Rattle.wamp_ids.specs.Pattern.{PatternValue}
use Rattle.wamp_patterns.specs.Matching.{matches}
use Rattle.realm_registrations.specs.declared.registration.Registration.{Registration}
use Rattle.realm_registrations.specs.Registrations.{Registrations, no_registrations, register, unregister, leave, turn, choose}

pub record IsSoundRegistration (registration : Registration) : Type 0 where
  -- each callee is in it once
  pub callees : AllPairs (λ (a b : ℕ). a ≢ b) registration.callees
  -- it has one
  pub held : 0 < length registration.callees
  -- and only one under `single`
  pub single : registration.invoke ≡ Single → length registration.callees ≡ 1

pub record AreSoundRegistrations (registrations : Registrations) : Type 0 where
  -- ids rise
  pub ids : AllPairs (λ (a b : Registration). a.id < b.id) registrations.list
  -- none is above the last one that was handed out, and that is an id
  pub handed_out : All (λ (registration : Registration). registration.id ≤ registrations.last) registrations.list
  pub last : registrations.last ≤ last_id
  -- there is one for each text and match
  pub one_each : AllPairs (λ (a b : Registration). a.pattern ≢ b.pattern) registrations.list
  pub each : All IsSoundRegistration registrations.list

abbrev pub NoneAreSound : Type 0
NoneAreSound = (limit : ℕ) → AreSoundRegistrations (no_registrations limit)

abbrev pub RegisterKeepsSound : Type 0
RegisterKeepsSound = (registrations : Registrations) (session : ℕ) (pattern : PatternValue) (invoke : Invoke)
    → AreSoundRegistrations registrations → AreSoundRegistrations (register registrations session pattern invoke).registrations

abbrev pub UnregisterKeepsSound : Type 0
UnregisterKeepsSound = (registrations : Registrations) (session id : ℕ)
    → AreSoundRegistrations registrations → AreSoundRegistrations (unregister registrations session id).registrations

abbrev pub LeaveKeepsSound : Type 0
LeaveKeepsSound = (registrations : Registrations) (session : ℕ) → AreSoundRegistrations registrations → AreSoundRegistrations (leave registrations session)

abbrev pub TurnKeepsSound : Type 0
TurnKeepsSound = (registrations : Registrations) (id : ℕ) → AreSoundRegistrations registrations → AreSoundRegistrations (turn registrations id)

-- ---- whatever calls were made

-- what changes registrations
pub data Call : Type 0 where
  Register : ℕ → PatternValue → Invoke → Call
  Unregister : ℕ → ℕ → Call
  Leave : ℕ → Call
  Turn : ℕ → Call

abbrev pub after_call : Registrations → Call → Registrations
after_call registrations (Call.Register session pattern invoke) = (register registrations session pattern invoke).registrations
after_call registrations (Call.Unregister session id) = (unregister registrations session id).registrations
after_call registrations (Call.Leave session) = leave registrations session
after_call registrations (Call.Turn id) = turn registrations id

-- the registrations after these calls
abbrev pub after : Registrations → List Call → Registrations
after registrations calls = fold after_call registrations calls

abbrev pub CallsKeepSound : Type 0
CallsKeepSound = (limit : ℕ) (calls : List Call) → AreSoundRegistrations (after (no_registrations limit) calls)

-- ---- a call finds a callee

-- a callee is chosen exactly if a registration matches
abbrev pub CalledWhereMatched : Type 0
CalledWhereMatched = (registrations : Registrations) (uri : List ℕ) → AreSoundRegistrations registrations
    → is_some (choose registrations uri) ≡ list_any (λ (registration : Registration). matches registration.pattern uri) registrations.list
