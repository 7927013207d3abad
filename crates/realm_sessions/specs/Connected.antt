-- How connected transports are kept, so that one is found without a walk over all.
use Rattle.std.specs.Prelude.{◌≡◌, ℕ, ◌-◌, List, Option, if◌then◌else◌}
use Rattle.std.specs.declared.cmp.Ordering.{Ordering}
use Rattle.std.specs.Ordering.{nat_cmp, ordering_then}
use Rattle.paxos_packets.specs.declared.transport.Transport.{Transport}
use Rattle.realm_lists.specs.OrderedList.{members}
use Rattle.realm_lists.specs.Finding.{IsIndex}
use Rattle.realm_lists.specs.PlaceIndex.{place_at}
use Rattle.realm_sessions.specs.declared.links.Link.{Link}
use Rattle.realm_sessions.specs.declared.links.Session.{Session}
use Rattle.realm_sessions.specs.Links.{is_of, has_id, is_open, session_count}

abbrev pub transport_cmp : Transport → Transport → Ordering
transport_cmp a b = ordering_then (nat_cmp a.node b.node) (ordering_then (nat_cmp a.boot b.boot) (nat_cmp a.number b.number))

-- the place of a transport
abbrev pub place_of : List (Transport × ℕ) → Transport → Option ℕ
place_of entries t = place_at transport_cmp entries t

-- the place of the session of this id
abbrev pub place_with : List (ℕ × ℕ) → ℕ → Option ℕ
place_with entries id = place_at nat_cmp entries id

pub record AreIndexed (rows : List (ℕ × Link)) (transports : List (Transport × ℕ)) (ids : List (ℕ × ℕ)) (count : ℕ) : Type 0 where
  pub transports_index : IsIndex is_of (place_of transports) rows
  pub ids_index : IsIndex has_id (place_with ids) rows
  pub counted : count ≡ session_count (members rows)

-- the count without this session
abbrev pub less_one : ℕ → Option Session → ℕ
less_one count session = if is_open session then count - 1 else count
