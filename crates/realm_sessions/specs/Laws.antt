-- Laws of sessions: what each change keeps, and that a new session has an id.
use Rattle.std.specs.Prelude.{◌≡◌, ◌≢◌, ℕ, ◌<◌, ◌≤◌, ◌^◌, ◌↔◌, Bool, true, false, List, [], AllPairs, Option, None, Some}
use Rattle.std.specs.Prelude.{Err, IfSome}
use Rattle.paxos_packets.specs.declared.transport.Transport.{Transport}
use Rattle.wamp_ids.specs.Id.{last_id, is_id}
use Rattle.realm_sessions.specs.declared.fault.RealmFault.TheVariants.{Limit}
use Rattle.realm_sessions.specs.declared.links.Link.{Link}
use Rattle.realm_sessions.specs.Links.{has_id, is_taken, session_count, new_session_id, connect, set_session, without_transport}
use Rattle.realm_sessions.specs.Links.{by_transport, transport_of, announces, has_number, free_invocation, set_invocation, due_invocation}
use Rattle.realm_sessions.specs.Sessions.{Sessions, open_session, opened, next_invocation}

-- not the sessions of one id
abbrev pub AreOtherSessions : Link → Link → Type 0
AreOtherSessions a b = (id : ℕ) → has_id id a ≡ true → has_id id b ≡ true → ⊥

pub record AreSoundLinks (links : List Link) : Type 0 where
  -- each transport is there once
  pub transports : AllPairs (λ (a b : Link). a.transport ≢ b.transport) links
  -- no two sessions have one id
  pub sessions : AllPairs AreOtherSessions links

abbrev pub NoneAreSound : Type 0
NoneAreSound = AreSoundLinks []

abbrev pub ConnectKeepsSound : Type 0
ConnectKeepsSound = (links : List Link) (t : Transport) → AreSoundLinks links → AreSoundLinks (connect links t)

abbrev pub OpenKeepsSound : Type 0
OpenKeepsSound = (sessions : Sessions) (t : Transport) (draw : ℕ) (canceling : Bool) → AreSoundLinks sessions.list
    → AreSoundLinks (open_session sessions t draw canceling).sessions.list

abbrev pub CloseKeepsSound : Type 0
CloseKeepsSound = (links : List Link) (t : Transport) → AreSoundLinks links → AreSoundLinks (set_session links t None)

abbrev pub RemoveKeepsSound : Type 0
RemoveKeepsSound = (links : List Link) (t : Transport) → AreSoundLinks links → AreSoundLinks (without_transport links t)

abbrev pub InvokeKeepsSound : Type 0
InvokeKeepsSound = (sessions : Sessions) (id : ℕ) (taken : List ℕ) → AreSoundLinks sessions.list
    → AreSoundLinks (next_invocation sessions id taken).sessions.list

-- ---- a session has an id

-- a free id is found for a session while fewer than 2^53 are open
abbrev pub FreeIdIsFound : Type 0
FreeIdIsFound = (links : List Link) (draw : ℕ) → is_id draw ≡ true → session_count links < last_id
    → (id : ℕ) × (is_id id ≡ true) × (is_taken links id ≡ false) × (new_session_id links draw ≡ Some id)

-- so a session is opened, with an id that no other has, if one more may be: none is refused because the ids ran out
abbrev pub OpensWhereRoom : Type 0
OpensWhereRoom = (sessions : Sessions) (t : Transport) (draw : ℕ) (canceling : Bool) → is_id draw ≡ true
    → sessions.limit < 2 ^ 32 → session_count sessions.list < sessions.limit
    → (id : ℕ) × (is_id id ≡ true) × (is_taken sessions.list id ≡ false)
    × (open_session sessions t draw canceling ≡ opened sessions t canceling (Some id))

-- and the limit is the fault exactly if as many are open as may be
abbrev pub LimitWhereFull : Type 0
LimitWhereFull = (sessions : Sessions) (t : Transport) (draw : ℕ) (canceling : Bool) → is_id draw ≡ true
    → sessions.limit < 2 ^ 32
    → ((open_session sessions t draw canceling).answer ≡ Err Limit) ↔ (sessions.limit ≤ session_count sessions.list)

-- ---- an invocation has an id

-- the next invocation's id is an id that is not taken
abbrev pub FreeInvocationIsFree : Type 0
FreeInvocationIsFree = (taken : List ℕ) (last : Option ℕ) (id : ℕ) → free_invocation taken last ≡ Some id
    → (is_id id ≡ true) × (has_number taken id ≡ false)

-- nor is the one that is handed out
abbrev pub NextIsFree : Type 0
NextIsFree = (sessions : Sessions) (id : ℕ) (taken : List ℕ)
    → IfSome (next_invocation sessions id taken).answer (λ invocation. has_number taken invocation ≡ false)

-- and there is none exactly if all 2^53 are taken
abbrev pub NoneWhereAllAreTaken : Type 0
NoneWhereAllAreTaken = (taken : List ℕ) (last : Option ℕ)
    → (free_invocation taken last ≡ None) ↔ ((id : ℕ) → is_id id ≡ true → has_number taken id ≡ true)

-- what else is taken makes no difference if the id after the last one is not
abbrev pub DueIsNext : Type 0
DueIsNext = (sessions : Sessions) (id due : ℕ) (taken : List ℕ) → due_invocation sessions.list id ≡ Some due
    → has_number taken due ≡ false → next_invocation sessions id taken ≡ next_invocation sessions id []

-- that a session is invoked changes neither where the sessions are nor what they announced
abbrev pub InvokeKeepsPlaces : Type 0
InvokeKeepsPlaces = (links : List Link) (id invocation : ℕ)
    → ((t : Transport) → by_transport (set_invocation links id invocation) t ≡ by_transport links t)
    × ((other : ℕ) → transport_of (set_invocation links id invocation) other ≡ transport_of links other)
    × ((other : ℕ) → announces (set_invocation links id invocation) other ≡ announces links other)
