-- The sessions of a realm out of the list of their links, as a snapshot has it (docs/PROTOCOL.md, "Snapshots"), and what no list has.
use Rattle.std.specs.Prelude.{◌≡◌, ℕ, ◌^◌, ◌-◌, Bool, false, not, ◌&&◌, ◌||◌, nat_le, List, Option, None, Some, option_map, Result, Ok, Err}
use Rattle.paxos_packets.specs.declared.transport.Transport.{Transport}
use Rattle.realm_sessions.specs.Apart.{checked}
use Rattle.realm_sessions.specs.declared.fault.RestoreFault.{RestoreFault}
use Rattle.realm_sessions.specs.declared.fault.RestoreFault.TheVariants.{Damaged, Memory}
use Rattle.realm_sessions.specs.declared.links.Session.{Session}
use Rattle.realm_sessions.specs.declared.links.Link.{Link}
use Rattle.realm_sessions.specs.Links.{is_of, has_id}
use Rattle.realm_sessions.specs.Sessions.{Sessions}

-- ---- what a call that restores returns

-- what is wanted, or `Damaged` where nothing is; memory may run out at any time
abbrev pub Restores : {A : Type 0} → Result A RestoreFault → Option A → Type 0
Restores (Ok made) wanted = wanted ≡ Some made
Restores (Err Damaged) wanted = wanted ≡ None
Restores (Err Memory) wanted = Unit {0}

-- a value becomes what is wanted, or nothing is wanted and the answer is `Damaged`; memory may run out at any time
abbrev pub Becomes : {A : Type 0} → Result (Unit {0}) RestoreFault → A → Option A → Type 0
Becomes (Ok _) new wanted = wanted ≡ Some new
Becomes (Err Damaged) new wanted = wanted ≡ None
Becomes (Err Memory) new wanted = Unit {0}

-- ---- links

-- the numbers of a transport are in their ranges: of a node, of a boot, and of a connection in the boot
abbrev pub is_numbered : Transport → Bool
is_numbered t = (nat_le 1 t.node && nat_le t.node 7) && ((nat_le 1 t.boot && nat_le t.boot 281474976710655) && nat_le 1 t.number)

abbrev pub is_misnumbered : Link → Bool
is_misnumbered link = not (is_numbered link.transport)

-- two links of one transport
abbrev pub same_origin : Link → Link → Bool
same_origin a b = is_of b.transport a

abbrev pub has_session_of : Option Session → Link → Bool
has_session_of None link = false
has_session_of (Some session) link = has_id session.id link

-- two links of one session
abbrev pub same_session : Link → Link → Bool
same_session a b = has_session_of b.session a

-- two links that no realm has
abbrev pub clash : Link → Link → Bool
clash a b = same_origin a b || same_session a b

-- the links, unless a number of one is out of its range, or two are of one transport or of one session
abbrev pub checked_links : List Link → Option (List Link)
checked_links links = checked is_misnumbered clash links

-- the sessions of these links under this limit, which they may be above
abbrev pub sessions_of : ℕ → List Link → Option Sessions
sessions_of limit links = option_map (λ (list : List Link). record { limit = limit; list = list }) (checked_links links)
