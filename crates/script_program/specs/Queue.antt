-- The queues of places, one for each ordered pair of members. This is for private clauses.
use Rattle.std.specs.Prelude.{◌≡◌, ℕ, suc, ◌+◌, ◌*◌, ◌<◌, ◌≤◌, Bool, true, ◌&&◌, ◌==◌, Option, Some, None, List, [], ◌∷◌, length, slice_get}
use Rattle.std.specs.Prelude.{slice_index_or, if◌then◌else◌, min}
use Rattle.std.specs.Option.{option_map_or}
use Rattle.paxos_packets.specs.Members.{is_member}
use Rattle.script_program.specs.declared.player.waiting.Sent.{Sent}
use Rattle.script_program.specs.declared.player.queue.Queue.{Queue}

-- the number of a pair of members
abbrev pub pair_of : Sent → ℕ
pair_of p = p.sender * 8 + p.addressee

abbrev pub is_between : ℕ → ℕ → Sent → Bool
is_between members pair p = (is_member members p.sender && is_member members p.addressee) && (pair_of p == pair)

-- the places of the packets of this pair, if the first packet of the list has this place
abbrev pub places_from : ℕ → ℕ → ℕ → List Sent → List ℕ
places_from members pair place [] = []
places_from members pair place (p ∷ ps) =
    if is_between members pair p then place ∷ places_from members pair (suc place) ps else places_from members pair (suc place) ps

-- whether the packet at this place was delivered; one that was not sent counts as delivered
abbrev pub delivered_at : List Sent → ℕ → Bool
delivered_at sent place = option_map_or (λ p. p.is_delivered) (slice_get sent place) true

-- the packets at the first `count` of these places were delivered
abbrev pub ArePassed : List Sent → List ℕ → ℕ → Type 0
ArePassed sent places count = (k : ℕ) → k < count → k < length places → delivered_at sent (slice_index_or places k 0) ≡ true

pub record IsQueueOf (members pair : ℕ) (sent : List Sent) (q : Queue) : Type 0 where
  pub places : q.places.items ≡ places_from members pair 0 sent
  pub within : q.passed ≤ length q.places.items
  pub passed : ArePassed sent q.places.items q.passed

-- 64 queues, each that of its pair
pub record AreQueues (members : ℕ) (sent : List Sent) (qs : List Queue) : Type 0 where
  pub count : length qs ≡ 64
  pub each : (pair : ℕ) (d : Queue) → pair < 64 → IsQueueOf members pair sent (slice_index_or qs pair d)

-- the lesser of two places
abbrev pub least_of : Option ℕ → Option ℕ → Option ℕ
least_of (Some a) (Some b) = Some (min a b)
least_of (Some a) None = Some a
least_of None b = b
