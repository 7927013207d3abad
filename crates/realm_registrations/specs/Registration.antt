-- A registration: the procedures that it serves, and its callees (WAMP specification, "Registering and Unregistering",
-- "Pattern-based Registrations", "Shared Registration").
use Rattle.std.specs.Prelude.{ℕ, ◌==◌, Bool, true, false, not, ◌&&◌, List, length, Option, option_map, slice_get, ◌-◌, if◌then◌else◌}
use Rattle.wamp_ids.specs.declared.policy.Invoke.{Invoke}
use Rattle.wamp_ids.specs.declared.policy.Invoke.TheVariants.{Single, First, Last, RoundRobin}
use Rattle.wamp_ids.specs.Pattern.{PatternValue}
use Rattle.wamp_patterns.specs.Table.{same_pattern}
use Rattle.realm_sessions.specs.Members.{has_member, has_members, joined, others, rotated}
use Rattle.realm_registrations.specs.declared.registration.Registration.{Registration}
use Rattle.realm_registrations.specs.declared.registration.Chosen.{Chosen}

-- it is of this text and match
abbrev pub is_at : PatternValue → Registration → Bool
is_at pattern registration = same_pattern registration.pattern pattern

abbrev pub has_id : ℕ → Registration → Bool
has_id id registration = registration.id == id

abbrev pub has_callee : ℕ → Registration → Bool
has_callee session registration = has_member session registration.callees

abbrev pub has_callees : Registration → Bool
has_callees registration = has_members registration.callees

abbrev pub same_invoke : Invoke → Invoke → Bool
same_invoke Single Single = true
same_invoke First First = true
same_invoke Last Last = true
same_invoke RoundRobin RoundRobin = true
same_invoke invoke other = false

-- callees share a registration under any policy but `single`
abbrev pub is_shared : Invoke → Bool
is_shared Single = false
is_shared First = true
is_shared Last = true
is_shared RoundRobin = true

-- a session may join it: it is shared, under the policy that is asked for, and the session is none of its callees
abbrev pub may_join : ℕ → Invoke → Registration → Bool
may_join session invoke registration =
    is_shared registration.invoke && (same_invoke registration.invoke invoke && not (has_callee session registration))

-- the session comes as the last callee
abbrev pub with_callee : ℕ → Registration → Registration
with_callee session registration = record registration { callees = joined session registration.callees }

-- the session leaves, if it is a callee
abbrev pub without_callee : ℕ → Registration → Registration
without_callee session registration = record registration { callees = others session registration.callees }

-- ---- whom it calls

abbrev pub first_of : List ℕ → Option ℕ
first_of callees = slice_get callees 0

abbrev pub last_of : List ℕ → Option ℕ
last_of callees = slice_get callees (length callees - 1)

-- under `last` the callee that joined last, else the first in the list
abbrev pub called : Invoke → List ℕ → Option ℕ
called Single callees = first_of callees
called First callees = first_of callees
called Last callees = last_of callees
called RoundRobin callees = first_of callees

-- the callee to call next, under which registration and match
abbrev pub chosen : Registration → Option Chosen
chosen registration = option_map
    (λ callee. record { registration = registration.id; callee = callee; matching = registration.pattern.matching })
    (called registration.invoke registration.callees)

abbrev pub takes_turns : Invoke → Bool
takes_turns Single = false
takes_turns First = false
takes_turns Last = false
takes_turns RoundRobin = true

-- callees that take turns: the first comes after the last
abbrev pub turned : Registration → Registration
turned registration =
    if takes_turns registration.invoke then record registration { callees = rotated registration.callees } else registration
