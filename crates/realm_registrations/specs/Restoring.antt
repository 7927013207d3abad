-- Registrations out of a list, as a snapshot has it (docs/PROTOCOL.md, "Snapshots"), and what no list has.
use Rattle.std.specs.Prelude.{ℕ, ◌==◌, Bool, not, ◌&&◌, ◌||◌, nat_lt, List, [], ◌∷◌}
use Rattle.std.specs.Prelude.{length, Option, None, Some, if◌then◌else◌}
use Rattle.std.specs.List.{list_any}
use Rattle.wamp_ids.specs.Pattern.{PatternValue}
use Rattle.realm_sessions.specs.Apart.{has_two}
use Rattle.realm_groups.specs.Groups.{Listed}
use Rattle.realm_groups.specs.Restoring.{are_damaged, and_put, ended_at, put_group, put_list}
use Rattle.realm_registrations.specs.declared.registration.Registration.{Registration}
use Rattle.realm_registrations.specs.Registration.{has_callees, is_shared, with_callee}
use Rattle.realm_registrations.specs.Registrations.{Registrations}

abbrev pub id_of : Registration → ℕ
id_of registration = registration.id

abbrev pub pattern_of : Registration → PatternValue
pattern_of registration = registration.pattern

abbrev pub same_id : ℕ → ℕ → Bool
same_id a b = a == b

-- a session is its callee twice
abbrev pub has_twice : Registration → Bool
has_twice registration = has_two same_id registration.callees

-- it is not shared, and has two callees
abbrev pub is_overfull : Registration → Bool
is_overfull registration = not (is_shared registration.invoke) && nat_lt 1 (length registration.callees)

-- no realm has this registration
abbrev pub is_damaged : Registration → Bool
is_damaged registration = not (has_callees registration) || (is_overfull registration || has_twice registration)

-- ---- step by step

abbrev pub callees_of : Registration → List ℕ
callees_of registration = registration.callees

-- the registration comes as the last one: first with one callee, whom these others join
abbrev pub put_callees : Listed Registration → Registration → List ℕ → Option (Listed Registration)
put_callees held registration [] = None
put_callees held registration (first ∷ more) =
    if not (is_shared registration.invoke) && nat_lt 0 (length more) then None
    else put_group id_of pattern_of callees_of with_callee held (record registration { callees = first ∷ [] }) more

abbrev pub put_registration : Listed Registration → Registration → Option (Listed Registration)
put_registration held registration = put_callees held registration registration.callees

-- the registrations come one after the other
abbrev pub put_registrations : Listed Registration → List Registration → Option (Listed Registration)
put_registrations held list = put_list put_registration held list

-- and the ids up to the last one are handed out
abbrev pub put_whole : Listed Registration → List Registration → ℕ → Option (Listed Registration)
put_whole held list last = and_put (put_registrations held list) (λ held. ended_at held last)

-- ---- of a whole list

-- the registrations of this list with this greatest id, unless no realm has them; under this limit, which a session may be above
abbrev pub registrations_of : ℕ → List Registration → ℕ → Option Registrations
registrations_of limit list last =
    if are_damaged id_of pattern_of list last || list_any is_damaged list then None
    else Some (record { limit = limit; list = list; last = last })
