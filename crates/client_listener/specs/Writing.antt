-- What is written of what a node hands to a client's transport (WAMP specification, "RawSocket Transport").
use Rattle.std.specs.Prelude.{◌≡◌, ◌≤◌, ◌^◌, ℕ, min, true, List, [], ◌∷◌, ◌++◌, length, Option, Result, Ok, Err}
use Rattle.std.specs.List.{list_all}
use Rattle.std.specs.Io.KnownBytes.{Appends}
use Rattle.rtrb.specs.Fifo.{Allowed}
use Rattle.client_listener.specs.declared.fault.ListenFault.{ListenFault}
use Rattle.client_listener.specs.declared.fault.ListenFault.TheVariants as fault
use Rattle.client_listener.specs.declared.items.ToClient.{ToClient}
use Rattle.client_listener.specs.declared.items.ToClient.TheVariants.{Close}
use Rattle.client_listener.specs.Outbox.{frame_of, is_wide, goes}

-- the frames of these items, one after another
abbrev pub written_of : List ToClient → List ℕ
written_of [] = []
written_of (item ∷ items) = frame_of item ++ written_of items

-- how many octets may wait while further items are taken: 64 KiB
abbrev pub most_waiting : ℕ
most_waiting = 65536

-- an item is taken after these only while at most 64 KiB wait: the octets that waited before, and the frames of these
abbrev pub IsInRoom : List ℕ → List ToClient → ToClient → Type 0
IsInRoom waiting items item = length (waiting ++ written_of items) ≤ most_waiting

-- what was taken and not written, by how it ended: the Close that ended it well; nothing once the turns were spent, with as many items taken as
-- the consumer knew of (or 2^63); the item that is wider than the client takes, or for which memory ran out
abbrev pub EndsBy : ℕ → ℕ → Result (Unit {0}) ListenFault → List ToClient → List ToClient → Type 0
EndsBy limit known (Ok x) took rest = rest ≡ Close ∷ []
EndsBy limit known (Err fault.Turns) took rest = (rest ≡ []) × (min known (2 ^ 63) ≤ length took)
EndsBy limit known (Err fault.Wide) took rest = (item : ToClient) × (rest ≡ item ∷ []) × (is_wide limit item ≡ true)
EndsBy limit known (Err fault.Memory) took rest = (item : ToClient) × (rest ≡ item ∷ [])
EndsBy limit known (Err other) took rest = ⊥

-- of these items the frames of the first were written, and then it ended
pub record Sends (limit known : ℕ) (result : Result (Unit {0}) ListenFault) (took : List ToClient) (old new : Option (List ℕ)) : Type 0 where
  pub items : List ToClient
  pub all_go : list_all (goes limit) items ≡ true
  pub are_written : Appends old new (written_of items)
  pub rest : List ToClient
  pub are_all : took ≡ items ++ rest
  pub is_left : EndsBy limit known result took rest

-- a write failed: of these items the frames of the first were written, and of the others a prefix of their frames; these were taken while few
-- octets waited
pub record Fails (took : List ToClient) (old new : Option (List ℕ)) : Type 0 where
  pub items : List ToClient
  pub rest : List ToClient
  pub are_all : took ≡ items ++ rest
  pub are_in_room : Allowed (IsInRoom []) [] rest
  pub front : List ℕ
  pub left : List ℕ
  pub are_cut : written_of rest ≡ front ++ left
  pub are_written : Appends old new (written_of items ++ front)

-- the frames of the first were written, and then it ended
abbrev pub Written : ℕ → ℕ → Result (Unit {0}) ListenFault → List ToClient → Option (List ℕ) → Option (List ℕ) → Type 0
Written limit known (Ok x) took old new = Sends limit known (Ok x) took old new
Written limit known (Err fault.Write) took old new = Fails took old new
Written limit known (Err other) took old new = Sends limit known (Err other) took old new

-- these items were taken out of a ring, each as its protocol allows, and written so
pub record Takes (allows : List ToClient → ToClient → Type 0) (limit known : ℕ) (result : Result (Unit {0}) ListenFault)
    (before after : List ToClient) (old new : Option (List ℕ)) : Type 0 where
  pub took : List ToClient
  pub are_taken : after ≡ before ++ took
  pub are_allowed : Allowed allows before took
  pub are_written : Written limit known result took old new

-- these items were taken and written so, and the ring's end is gone then
abbrev pub Sent : (List ToClient → ToClient → Type 0) → ℕ → ℕ → Result (Unit {0}) ListenFault → List ToClient → Option (List ℕ)
    → Option (List ℕ) → Type 0
Sent allows limit known result before old new = (after : List ToClient) × Takes allows limit known result before after old new
