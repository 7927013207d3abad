-- The sessions of a realm, of which at most `limit` may be open (WAMP specification, "Session Establishment"; the limit is this profile's:
-- docs/PROTOCOL.md, "The realm"), and the ids of their invocations (WAMP specification, "IDs").
use Rattle.std.specs.Prelude.{ℕ, Bool, nat_lt, List, Option, None, Some, Result, Ok, Err, if◌then◌else◌}
use Rattle.paxos_packets.specs.declared.transport.Transport.{Transport}
use Rattle.realm_sessions.specs.declared.links.Link.{Link}
use Rattle.realm_sessions.specs.declared.fault.RealmFault.{RealmFault}
use Rattle.realm_sessions.specs.declared.fault.RealmFault.TheVariants.{Limit}
use Rattle.realm_sessions.specs.Links.{session_count, new_session_id, set_session, session_with}
use Rattle.realm_sessions.specs.Links.{invocation_of, set_invocation}

pub record Sessions : Type 0 where
  -- at most this many may be open at a time
  pub limit : ℕ
  -- the connected transports in the order in which they came
  pub list : List Link

abbrev pub with_list : Sessions → List Link → Sessions
with_list sessions list = record { limit = sessions.limit; list = list }

-- what becomes of the sessions when one is asked for, and what is returned
pub record Opened : Type 0 where
  pub sessions : Sessions
  pub answer : Result ℕ RealmFault

-- the session of this id; that one is found is a law (Laws: `OpensWhereRoom`)
abbrev pub opened : Sessions → Transport → Bool → Option ℕ → Opened
opened sessions t canceling None = record { sessions = sessions; answer = Err Limit }
opened sessions t canceling (Some id) = record {
  sessions = with_list sessions (set_session sessions.list t
      (Some (record { id = id; canceling = canceling; last_invocation = None })));
  answer = Ok id;
}

-- a session for a connected transport that has none: its id is the draw, or the next free one upwards
abbrev pub open_session : Sessions → Transport → ℕ → Bool → Opened
open_session sessions t draw canceling =
    if nat_lt (session_count sessions.list) sessions.limit then opened sessions t canceling (new_session_id sessions.list draw)
    else record { sessions = sessions; answer = Err Limit }

-- what becomes of the sessions when an invocation's id is asked for, and what is returned
pub record Invoked : Type 0 where
  pub sessions : Sessions
  pub answer : Option ℕ

abbrev pub invoked_with : Sessions → ℕ → Option ℕ → Invoked
invoked_with sessions id None = record { sessions = sessions; answer = None }
invoked_with sessions id (Some invocation) = record {
  sessions = with_list sessions (set_invocation sessions.list id invocation);
  answer = Some invocation;
}

-- the id of the session's next invocation, which is its last one now: the first one after the last that is not taken. None without that
-- session; that one is found otherwise is a law (Laws: `NoneWhereAllAreTaken`)
abbrev pub next_invocation : Sessions → ℕ → List ℕ → Invoked
next_invocation sessions id taken = invoked_with sessions id (invocation_of taken (session_with sessions.list id))
