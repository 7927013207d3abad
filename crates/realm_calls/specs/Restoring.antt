-- Open calls out of a list, as a snapshot has it (docs/PROTOCOL.md, "Snapshots"), and what no list has.
use Rattle.std.specs.Prelude.{ℕ, Bool, false, ◌||◌, List, Option, option_map}
use Rattle.realm_sessions.specs.Apart.{checked}
use Rattle.realm_calls.specs.declared.calls.Open.{Open}
use Rattle.realm_calls.specs.Calls.{Calls, is_call, is_invocation}

-- two calls of one caller and request
abbrev pub same_request : Open → Open → Bool
same_request a b = is_call b.caller b.request a

-- two calls of one callee and invocation
abbrev pub same_invocation : Open → Open → Bool
same_invocation a b = is_invocation b.callee b.invocation a

-- two calls that no realm has
abbrev pub clash : Open → Open → Bool
clash a b = same_request a b || same_invocation a b

-- a call by itself is never wrong
abbrev pub is_faulty : Open → Bool
is_faulty call = false

-- the calls, unless two have one caller and request, or one callee and invocation
abbrev pub checked_calls : List Open → Option (List Open)
checked_calls list = checked is_faulty clash list

-- these calls under this limit, which they may be above
abbrev pub calls_of : ℕ → List Open → Option Calls
calls_of limit list = option_map (λ (list : List Open). record { limit = limit; list = list }) (checked_calls list)
