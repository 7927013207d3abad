-- Connected transports in the order in which they came, and their sessions (WAMP specification, "Sessions").
use Rattle.std.specs.Prelude.{ℕ, zero, suc, ◌==◌, Bool, true, false, not, List, [], ◌∷◌, ◌++◌, length, map, filter, find, Option}
use Rattle.std.specs.Prelude.{None, Some, option_map, if◌then◌else◌}
use Rattle.std.specs.List.{list_any}
use Rattle.wamp_ids.specs.Id.{id_after}
use Rattle.paxos_packets.specs.declared.transport.Transport.{Transport}
use Rattle.paxos_packets.specs.Transport.{same_transport}
use Rattle.realm_sessions.specs.declared.links.Session.{Session}
use Rattle.realm_sessions.specs.declared.links.Link.{Link}

-- the link of this transport
abbrev pub is_of : Transport → Link → Bool
is_of t link = same_transport link.transport t

abbrev pub is_session : ℕ → Option Session → Bool
is_session id None = false
is_session id (Some session) = session.id == id

-- the link of this session
abbrev pub has_id : ℕ → Link → Bool
has_id id link = is_session id link.session

abbrev pub is_open : Option Session → Bool
is_open None = false
is_open (Some session) = true

abbrev pub has_session : Link → Bool
has_session link = is_open link.session

abbrev pub is_connected : List Link → Transport → Bool
is_connected links t = list_any (is_of t) links

-- the id of a link's session
abbrev pub id_of : Link → Option ℕ
id_of link = option_map (λ (session : Session). session.id) link.session

-- the id of the transport's session, none if it is connected without one
abbrev pub by_transport : List Link → Transport → Option (Option ℕ)
by_transport links t = option_map id_of (find (is_of t) links)

-- the transport of a session
abbrev pub transport_of : List Link → ℕ → Option Transport
transport_of links id = option_map (λ (link : Link). link.transport) (find (has_id id) links)

abbrev pub is_canceling : Option Session → Bool
is_canceling None = false
is_canceling (Some session) = session.canceling

abbrev pub found_canceling : Option Link → Bool
found_canceling None = false
found_canceling (Some link) = is_canceling link.session

-- the session announced call canceling
abbrev pub announces : List Link → ℕ → Bool
announces links id = found_canceling (find (has_id id) links)

-- the transports that a node took
abbrev pub of_origin : List Link → ℕ → List Transport
of_origin links node = map (λ (link : Link). link.transport) (filter (λ (link : Link). link.transport.node == node) links)

abbrev pub is_taken : List Link → ℕ → Bool
is_taken links id = list_any (has_id id) links

-- the first id from this one on that is not used, among that many; ids wrap around
abbrev pub free_from : ℕ → (ℕ → Bool) → ℕ → Option ℕ
free_from zero is_used id = None
free_from (suc turns) is_used id = if is_used id then free_from turns is_used (id_after id) else Some id

-- a session's id: the draw, or the next free one upwards
abbrev pub new_session_id : List Link → ℕ → Option ℕ
new_session_id links draw = free_from (suc (length links)) (is_taken links) draw

abbrev pub session_count : List Link → ℕ
session_count links = length (filter has_session links)

abbrev pub connect : List Link → Transport → List Link
connect links t = if is_connected links t then links else links ++ record { transport = t; session = None } ∷ []

abbrev pub put_session : Transport → Option Session → Link → Link
put_session t session link = if is_of t link then record { transport = link.transport; session = session } else link

-- the transport has this session now, or none
abbrev pub set_session : List Link → Transport → Option Session → List Link
set_session links t session = map (put_session t session) links

-- the transport is connected no more
abbrev pub without_transport : List Link → Transport → List Link
without_transport links t = filter (λ link. not (is_of t link)) links

abbrev pub found_session : Option Link → Option Session
found_session None = None
found_session (Some link) = link.session

-- the session of this id
abbrev pub session_with : List Link → ℕ → Option Session
session_with links id = found_session (find (has_id id) links)

-- the list has this id
abbrev pub has_number : List ℕ → ℕ → Bool
has_number ids id = list_any (λ other. other == id) ids

-- ids of invocations begin at 1 and go round
abbrev pub invocation_after : Option ℕ → ℕ
invocation_after None = 1
invocation_after (Some last) = id_after last

-- the first id after the last invocation's that is not taken
abbrev pub free_invocation : List ℕ → Option ℕ → Option ℕ
free_invocation taken last = free_from (suc (length taken)) (has_number taken) (invocation_after last)

-- the id after the session's last invocation, which is its next one's unless it is taken
abbrev pub due_invocation : List Link → ℕ → Option ℕ
due_invocation links id = option_map (λ (session : Session). invocation_after session.last_invocation) (session_with links id)

-- a session's next invocation
abbrev pub invocation_of : List ℕ → Option Session → Option ℕ
invocation_of taken None = None
invocation_of taken (Some session) = free_invocation taken session.last_invocation

abbrev pub invoked : ℕ → Option Session → Option Session
invoked invocation None = None
invoked invocation (Some session) = Some (record { id = session.id; canceling = session.canceling; last_invocation = Some invocation })

abbrev pub put_invocation : ℕ → ℕ → Link → Link
put_invocation id invocation link =
    if has_id id link then record { transport = link.transport; session = invoked invocation link.session } else link

-- the session's last invocation is this one now
abbrev pub set_invocation : List Link → ℕ → ℕ → List Link
set_invocation links id invocation = map (put_invocation id invocation) links
