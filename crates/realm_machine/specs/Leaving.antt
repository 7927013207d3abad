-- How a client leaves, and why it is made to (WAMP specification, "Session Closing"; docs/PROTOCOL.md, "The realm").
use Rattle.std.specs.Prelude.{ℕ, List, [], ◌∷◌, Option, None, Some}
use Rattle.std.specs.List.{flat_map}
use Rattle.paxos_packets.specs.declared.transport.Transport.{Transport}
use Rattle.realm_sessions.specs.Links.{by_transport, of_origin, set_session, without_transport}
use Rattle.realm_registrations.specs.Registrations as registrations
use Rattle.realm_subscriptions.specs.Leaving as subscriptions
use Rattle.realm_calls.specs.Calls.{calls_to, calls_by, without_callee, without_caller}
use Rattle.realm_machine.specs.Sayings.{say, shut, abort, goodbye as goodbye_for, protocol_violation, goodbye_and_out}
use Rattle.realm_machine.specs.Sayings.Endings.{end_for_caller, end_for_callee, farewell}
use Rattle.realm_machine.specs.Content.{Content, Step, quiet, reply, and_then, with_links, with_calls}

-- ---- calls end with a session

-- the calls to the session by others end, in order of opening
abbrev pub end_calls_to : Content → ℕ → Step
end_calls_to c session = record {
  content = with_calls c (without_callee c.calls.list session);
  says = flat_map (end_for_caller c.sessions.list) (calls_to c.calls.list session);
}

-- its calls to others end, in order of opening; those to itself end silently
abbrev pub end_calls_by : Content → ℕ → Step
end_calls_by c session = record {
  content = with_calls c (without_caller c.calls.list session);
  says = flat_map (end_for_callee c.sessions.list) (calls_by c.calls.list session);
}

-- ---- a session leaves

-- its transport stays, without a session
abbrev pub closed : Content → Transport → Content
closed c t = with_links c (set_session c.sessions.list t None)

-- the session's registrations, then its subscriptions
abbrev pub withdraw : Content → ℕ → Content
withdraw c session = record {
  sessions = c.sessions;
  registrations = registrations.leave c.registrations session;
  subscriptions = subscriptions.leave c.subscriptions session;
  calls = c.calls;
}

-- its calls end, and others hear of them
abbrev pub end_session : Content → ℕ → Step
end_session c session = and_then (end_calls_to c session) (λ d. and_then (end_calls_by d session) (λ e. quiet (withdraw e session)))

-- nothing is said to the session itself, since its transport is without it by then
abbrev pub leave_session : Content → Transport → Option (Option ℕ) → Step
leave_session c t None = quiet c
leave_session c t (Some None) = quiet c
leave_session c t (Some (Some session)) = end_session (closed c t) session

-- *Leave*: the calls to it, the calls by it, its registrations, its subscriptions
abbrev pub leave : Content → Transport → Step
leave c t = leave_session c t (by_transport c.sessions.list t)

-- the transport goes, after its session has left; one that is not connected has none, and nothing changes
abbrev pub remove : Content → Transport → Step
remove c t = and_then (leave c t) (λ d. quiet (with_links d (without_transport d.sessions.list t)))

-- the transport is sent why, and closed
abbrev pub stop : Content → Transport → List ℕ → Step
stop c t reason = and_then (remove c t) (λ d. record { content = d; says = say t (abort reason) ∷ (shut t ∷ []) })

abbrev pub violation : Content → Transport → Step
violation c t = stop c t protocol_violation

abbrev pub aborted : Content → Transport → Step
aborted c t = and_then (remove c t) (λ d. record { content = d; says = shut t ∷ [] })

abbrev pub goodbye : Content → Transport → Step
goodbye c t = and_then (leave c t) (λ d. reply d t (goodbye_for goodbye_and_out))

-- ---- a node is gone

abbrev pub one_gone : Content → Transport → Step
one_gone c t = and_then (remove c t) (λ d. record { content = d; says = farewell t (by_transport c.sessions.list t) })

-- one transport after the other, each with the session that it has then
abbrev pub all_gone : List Transport → Content → Step
all_gone [] c = quiet c
all_gone (t ∷ ts) c = and_then (one_gone c t) (all_gone ts)

-- the transports that a node took, in the order in which they came
abbrev pub gone : Content → ℕ → Step
gone c node = all_gone (of_origin c.sessions.list node) c
