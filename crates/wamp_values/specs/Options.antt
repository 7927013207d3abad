-- What this router reads of the options and details of messages (WAMP specification, "Protocol Messages": Options|dict,
-- Details|dict; the keys and their defaults: docs/PROTOCOL.md, "Messages").
use Rattle.std.specs.Prelude.{ℕ, Bool, true, false, List, Option, Some, None, codes, bytes_eq, is_some, option_and_then, if◌then◌else◌}
use Rattle.serde_json.specs.Data.{Data}
use Rattle.serde_json.specs.Find.{get, as_str}
use Rattle.wamp_ids.specs.declared.policy.Match.{Match}
use Rattle.wamp_ids.specs.declared.policy.Match.TheVariants.{Exact, Prefix, Wildcard}
use Rattle.wamp_ids.specs.declared.policy.Invoke.{Invoke}
use Rattle.wamp_ids.specs.declared.policy.Invoke.TheVariants.{Single, First, Last, RoundRobin}
use Rattle.wamp_ids.specs.declared.policy.Mode.{Mode}
use Rattle.wamp_ids.specs.declared.policy.Mode.TheVariants.{Skip, Kill, KillNoWait}
use Rattle.wamp_values.specs.Found.{text_at, bool_at}
use Rattle.wamp_values.specs.declared.found.Found.{Found}
use Rattle.wamp_values.specs.declared.found.Found.TheVariants.{Absent, Is, Other}

-- the truth value of a key, or `missing` if the key is absent; None if its value has another type
abbrev pub flag_in : List ℕ → Bool → Data → Option Bool
flag_in key missing options = flag_of (bool_at key options)
  where
    flag_of : Found Bool → Option Bool
    flag_of Absent = Some missing
    flag_of (Is flag) = Some flag
    flag_of Other = None

-- the match of a text, if it is the name of one
abbrev pub match_of : List ℕ → Option Match
match_of name =
    if bytes_eq name (codes "exact") then Some Exact
    else (if bytes_eq name (codes "prefix") then Some Prefix
    else (if bytes_eq name (codes "wildcard") then Some Wildcard
    else None))

-- the options' match, exact if they have none; None if it is not the name of a match
abbrev pub match_in : Data → Option Match
match_in options = match_found (text_at (codes "match") options)
  where
    match_found : Found (List ℕ) → Option Match
    match_found Absent = Some Exact
    match_found (Is name) = match_of name
    match_found Other = None

-- the features that a client announces as a callee
abbrev pub callee_features : Data → Option Data
callee_features details = option_and_then (get (codes "features")) (option_and_then (get (codes "callee")) (get (codes "roles") details))

abbrev pub is_set : Found Bool → Bool
is_set Absent = false
is_set (Is flag) = flag
is_set Other = false

-- call canceling is `true` among a callee's features; all else counts as not announced
abbrev pub is_canceling : Data → Bool
is_canceling details = is_among (callee_features details)
  where
    is_among : Option Data → Bool
    is_among None = false
    is_among (Some features) = is_set (bool_at (codes "call_canceling") features)

-- the policy of a text, if it is the name of one (WAMP specification, "Shared Registration")
abbrev pub invoke_of : List ℕ → Option Invoke
invoke_of name =
    if bytes_eq name (codes "single") then Some Single
    else (if bytes_eq name (codes "first") then Some First
    else (if bytes_eq name (codes "last") then Some Last
    else (if bytes_eq name (codes "roundrobin") then Some RoundRobin
    else None)))

-- the options' policy, single if they have none; None if it is not the name of a policy
abbrev pub invoke_in : Data → Option Invoke
invoke_in options = invoke_found (text_at (codes "invoke") options)
  where
    invoke_found : Found (List ℕ) → Option Invoke
    invoke_found Absent = Some Single
    invoke_found (Is name) = invoke_of name
    invoke_found Other = None

-- the mode of a text, if it is the name of one (WAMP specification, "Call Canceling")
abbrev pub mode_of : List ℕ → Option Mode
mode_of name =
    if bytes_eq name (codes "skip") then Some Skip
    else (if bytes_eq name (codes "kill") then Some Kill
    else (if bytes_eq name (codes "killnowait") then Some KillNoWait
    else None))

-- the options' mode, if they have one; None if it is absent or not the name of a mode
abbrev pub mode_named : Data → Option Mode
mode_named options = mode_found (text_at (codes "mode") options)
  where
    mode_found : Found (List ℕ) → Option Mode
    mode_found Absent = None
    mode_found (Is name) = mode_of name
    mode_found Other = None

-- the options' mode, killnowait if they have none; None if it is not the name of a mode
abbrev pub mode_in : Data → Option Mode
mode_in options = mode_found (text_at (codes "mode") options)
  where
    mode_found : Found (List ℕ) → Option Mode
    mode_found Absent = Some KillNoWait
    mode_found (Is name) = mode_of name
    mode_found Other = None
