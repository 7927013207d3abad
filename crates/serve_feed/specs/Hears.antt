-- What goes to the clients of a node: the ring of each connection that is there is sent what is said to its transport.
use Rattle.std.specs.Prelude.{◌≡◌, ◌<◌, ◌≤◌, ◌==◌, ◌⊎◌, ℕ, true, false, List, [], ◌∷◌, ◌++◌, length, slice_index_or, if◌then◌else◌}
use Rattle.std.specs.List.{All, AllPairs}
use Rattle.rtrb.specs.Ring.{sent, known_free, SameProducer}
use Rattle.client_listener.specs.declared.items.ToClient.{ToClient}
use Rattle.serve_feed.specs.declared.lane.Lane.{Lane}

-- the numbers of connections rise, and none is above the last that was given
pub record AreLined (lanes : List Lane) (last : ℕ) : Type 0 where
  pub rise : AllPairs (λ (a b : Lane). a.number < b.number) lanes
  pub up_to : All (λ (lane : Lane). lane.number ≤ last) lanes

-- in the midst of this no room was known in a connection's ring: it was sent what comes before the saying that found none
abbrev pub RunsFull : List ToClient → Lane → Lane → Type 0
RunsFull said old new =
    (front : List ToClient) × (saying : ToClient) × (rest : List ToClient) × (front ++ saying ∷ rest ≡ said)
    × (sent new.sayings ≡ sent old.sayings ++ front) × (known_free new.sayings ≡ 0)

-- a connection, of one number and one ring, once this was said to its client: unless the node has ended it, its ring was sent all of it, in
-- order. One that had ended gets nothing; another one ends only if its ring has no room
pub record Hears (said : List ToClient) (old new : Lane) : Type 0 where
  pub number : new.number ≡ old.number
  pub ring : SameProducer old.sayings new.sayings
  pub all : new.is_ended ≡ false → (old.is_ended ≡ false) × (sent new.sayings ≡ sent old.sayings ++ said)
  pub ended : old.is_ended ≡ true → (new.is_ended ≡ true) × (new.sayings ≡ old.sayings)
  pub full : new.is_ended ≡ true → (old.is_ended ≡ true) ⊎ RunsFull said old new

-- all connections, once this was said to the clients under their numbers
pub record Hear (said : ℕ → List ToClient) (old new : List Lane) : Type 0 where
  pub same : length new ≡ length old
  pub each : (k : ℕ) (d : Lane) → k < length old
      → Hears (said (slice_index_or old k d).number) (slice_index_or old k d) (slice_index_or new k d)

-- nothing is said
abbrev pub nothing : ℕ → List ToClient
nothing number = []

-- one saying to the client under this number
abbrev pub one : ℕ → ToClient → ℕ → List ToClient
one number saying other = if other == number then saying ∷ [] else []

-- the connection at this place has the number
pub record IsAt (lanes : List Lane) (number place : ℕ) : Type 0 where
  pub within : place < length lanes
  pub has : (d : Lane) → (slice_index_or lanes place d).number ≡ number

-- no connection has the number
abbrev pub IsNowhere : List Lane → ℕ → Type 0
IsNowhere lanes number = All (λ (lane : Lane). lane.number ≡ number → ⊥) lanes

-- a connection of which nothing changes that a client could see
pub record Stays (old new : Lane) : Type 0 where
  pub number : new.number ≡ old.number
  pub is_ended : new.is_ended ≡ old.is_ended
  pub sayings : new.sayings ≡ old.sayings

-- the node ends a connection
pub record Ends (old new : Lane) : Type 0 where
  pub number : new.number ≡ old.number
  pub is_ended : new.is_ended ≡ true
  pub sayings : new.sayings ≡ old.sayings
