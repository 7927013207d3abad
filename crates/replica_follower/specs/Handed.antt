-- What each transport was handed, by look-up.
use Rattle.std.specs.Prelude.{◌≡◌, ◌≢◌, ◌⊎◌, ℕ, zero, ◌+◌, ◌<◌, ◌≤◌, List, [], ◌∷◌, All, AllPairs, vec_len, vec_capacity}
use Rattle.std.specs.Option.{option_map_or}
use Rattle.std.specs.Map.{lookup}
use Rattle.paxos_packets.specs.declared.transport.Transport.{Transport}
use Rattle.paxos_packets.specs.Transport.{same_transport}
use Rattle.replica_follower.specs.declared.handed.Told.{Told}

-- what the transport was handed, oldest first
abbrev pub said_in : {Y : Type 0} → Transport → List (Transport × Told Y) → List Y
said_in t told = option_map_or (λ u. u.says.items) (lookup (same_transport t) told) []

-- for how many more sayings to it there is room
abbrev pub room_in : {Y : Type 0} → Transport → List (Transport × Told Y) → ℕ
room_in t told = option_map_or (λ u. u.coming) (lookup (same_transport t) told) zero

-- there is room for what is to come
abbrev pub HasRoom : {Y : Type 0} → Told Y → Type 0
HasRoom u = vec_len u.says + u.coming ≤ vec_capacity u.says

-- the transports that were handed something, each with all of it
abbrev pub telling : {Y : Type 0} → Transport → List Y → List (Transport × List Y) → List (Transport × List Y)
telling t [] rest = rest
telling t (y ∷ ys) rest = (t, y ∷ ys) ∷ rest

abbrev pub tellings : {Y : Type 0} → List (Transport × Told Y) → List (Transport × List Y)
tellings [] = []
tellings (p ∷ ps) = telling p.0 p.1.says.items (tellings ps)

-- one transport comes before another: by node, boot and number
abbrev pub IsBefore : Transport → Transport → Type 0
IsBefore t q = (t.node < q.node) ⊎ ((t.node ≡ q.node) × ((t.boot < q.boot) ⊎ ((t.boot ≡ q.boot) × (t.number < q.number))))

-- each comes before those after it
abbrev pub AreInOrder : {Y : Type 0} → List (Transport × List Y) → Type 0
AreInOrder told = AllPairs (λ p q. IsBefore p.0 q.0) told

-- what a list has for the transport
abbrev pub told_in : {Y : Type 0} → Transport → List (Transport × List Y) → List Y
told_in t told = option_map_or (λ ys. ys) (lookup (same_transport t) told) []

-- these have each transport that was handed something, in order, with what it was handed
pub record TellAll {Y : Type 0} (handed : List (Transport × Told Y)) (told : List (Transport × List Y)) : Type 0 where
  pub in_order : AreInOrder told
  pub full : All (λ p. p.1 ≢ []) told
  pub each : (t : Transport) → told_in t told ≡ said_in t handed
