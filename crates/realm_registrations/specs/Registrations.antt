-- The registrations of a realm by ascending id, of which a session may have at most `limit` (WAMP specification, "Registering and
-- Unregistering", "Shared Registration"; the limit, the refusals and their order are this profile's: docs/PROTOCOL.md, "The realm").
use Rattle.std.specs.Prelude.{ℕ, ◌+◌, nat_lt, Bool, not, ◌||◌, List, [], ◌∷◌, ◌++◌, length, map, filter, find, Option, None, Some}
use Rattle.std.specs.Prelude.{false, Result, Ok, Err, if◌then◌else◌}
use Rattle.wamp_ids.specs.declared.policy.Invoke.{Invoke}
use Rattle.wamp_ids.specs.Id.{last_id}
use Rattle.wamp_ids.specs.Uri.{is_reserved}
use Rattle.wamp_ids.specs.Pattern.{PatternValue}
use Rattle.wamp_patterns.specs.Ranking.{serves}
use Rattle.realm_sessions.specs.declared.fault.RealmFault.{RealmFault}
use Rattle.realm_sessions.specs.declared.fault.RealmFault.TheVariants.{InvalidUri, Limit, AlreadyExists, NoSuchRegistration}
use Rattle.realm_registrations.specs.declared.registration.Registration.{Registration}
use Rattle.realm_registrations.specs.declared.registration.Chosen.{Chosen}
use Rattle.realm_registrations.specs.Registration.{is_at, has_id, has_callee, has_callees, may_join, with_callee, without_callee}
use Rattle.realm_registrations.specs.Registration.{chosen, turned}

pub record Registrations : Type 0 where
  -- at most this many may one session have at a time
  pub limit : ℕ
  -- by ascending id
  pub list : List Registration
  -- the greatest id that was handed out, 0 before the first
  pub last : ℕ

-- nothing, under this limit
abbrev pub no_registrations : ℕ → Registrations
no_registrations limit = record { limit = limit; list = []; last = 0 }

abbrev pub with_list : Registrations → List Registration → Registrations
with_list registrations list = record registrations { list = list }

-- the registration of this text and match
abbrev pub registration_at : Registrations → PatternValue → Option Registration
registration_at registrations pattern = find (is_at pattern) registrations.list

-- how many registrations a session has
abbrev pub count_of : Registrations → ℕ → ℕ
count_of registrations session = length (filter (has_callee session) registrations.list)

-- a session may have no more: it has as many as it may have, or the ids are spent
abbrev pub is_full : Registrations → ℕ → Bool
is_full registrations session = not (nat_lt (count_of registrations session) registrations.limit) || not (nat_lt registrations.last last_id)

-- the first registration that passes the test, changed
abbrev pub change_first : (Registration → Bool) → (Registration → Registration) → List Registration → List Registration
change_first test change [] = []
change_first test change (registration ∷ rest) =
    if test registration then change registration ∷ rest else registration ∷ change_first test change rest

-- ---- a session registers

-- what becomes of the registrations, and what is answered
pub record Registered : Type 0 where
  pub registrations : Registrations
  pub answer : Result ℕ RealmFault

abbrev pub refused : Registrations → RealmFault → Registered
refused registrations fault = record { registrations = registrations; answer = Err fault }

-- a new registration, with the next id and the session as its callee
abbrev pub with_registration : Registrations → ℕ → PatternValue → Invoke → Registrations
with_registration registrations session pattern invoke = record registrations {
  list = registrations.list
      ++ record { id = registrations.last + 1; pattern = pattern; invoke = invoke; callees = session ∷ [] } ∷ [];
  last = registrations.last + 1;
}

-- the session is the last callee of the registration of this text and match now
abbrev pub with_callee_at : Registrations → ℕ → PatternValue → Registrations
with_callee_at registrations session pattern =
    with_list registrations (change_first (is_at pattern) (with_callee session) registrations.list)

-- by the registration of this text and match, if there is one
abbrev pub register_at : Registrations → ℕ → PatternValue → Invoke → Option Registration → Registered
register_at registrations session pattern invoke None =
    if is_full registrations session then refused registrations Limit
    else record { registrations = with_registration registrations session pattern invoke; answer = Ok (registrations.last + 1) }
register_at registrations session pattern invoke (Some registration) =
    if not (may_join session invoke registration) then refused registrations AlreadyExists
    else (if is_full registrations session then refused registrations Limit
    else record { registrations = with_callee_at registrations session pattern; answer = Ok registration.id })

-- the session becomes a callee under this pattern and policy, or the first cause that fits refuses it
abbrev pub register : Registrations → ℕ → PatternValue → Invoke → Registered
register registrations session pattern invoke =
    if is_reserved pattern.text then refused registrations InvalidUri
    else register_at registrations session pattern invoke (registration_at registrations pattern)

-- ---- a session withdraws

abbrev pub found_callee : ℕ → Option Registration → Bool
found_callee session None = false
found_callee session (Some registration) = has_callee session registration

-- the session is a callee of the registration of this id
abbrev pub is_callee : Registrations → ℕ → ℕ → Bool
is_callee registrations session id = found_callee session (find (has_id id) registrations.list)

pub record Unregistered : Type 0 where
  pub registrations : Registrations
  pub answer : Result (Unit {0}) RealmFault

-- the session is no callee of the registration of this id any more; one without callees is no more
abbrev pub without_callee_of : Registrations → ℕ → ℕ → Registrations
without_callee_of registrations session id =
    with_list registrations (filter has_callees (change_first (has_id id) (without_callee session) registrations.list))

abbrev pub unregister : Registrations → ℕ → ℕ → Unregistered
unregister registrations session id =
    if is_callee registrations session id then record { registrations = without_callee_of registrations session id; answer = Ok tt }
    else record { registrations = registrations; answer = Err NoSuchRegistration }

-- the session is no callee any more; what has no callees is no more
abbrev pub leave : Registrations → ℕ → Registrations
leave registrations session = with_list registrations (filter has_callees (map (without_callee session) registrations.list))

-- ---- a call is made

-- the registration that serves the URI
abbrev pub serving : Registrations → List ℕ → Option Registration
serving registrations uri = serves (λ (registration : Registration). registration.pattern) registrations.list uri

abbrev pub found_chosen : Option Registration → Option Chosen
found_chosen None = None
found_chosen (Some registration) = chosen registration

-- the registration that serves the URI, and its callee that is called
abbrev pub choose : Registrations → List ℕ → Option Chosen
choose registrations uri = found_chosen (serving registrations uri)

-- the callees of the registration of this id take turns, if its policy is `roundrobin`
abbrev pub turn : Registrations → ℕ → Registrations
turn registrations id = with_list registrations (change_first (has_id id) turned registrations.list)
