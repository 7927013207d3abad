-- What is gathered of what a node hands to a client's transport, by a thread that waits for nothing.
use Rattle.std.specs.Prelude.{◌≡◌, ◌≤◌, ◌+◌, ℕ, Bool, true, false, List, [], ◌∷◌, ◌++◌, length, Result, Ok, Err}
use Rattle.std.specs.List.{list_all}
use Rattle.rtrb.specs.Fifo.{Allowed}
use Rattle.rtrb.specs.Ring.{received, known_items}
use Rattle.rtrb.specs.declared.consumer.Consumer.{Consumer}
use Rattle.client_listener.specs.declared.fault.ListenFault.{ListenFault}
use Rattle.client_listener.specs.declared.fault.ListenFault.TheVariants as fault
use Rattle.client_listener.specs.declared.items.ToClient.{ToClient}
use Rattle.client_listener.specs.declared.items.ToClient.TheVariants.{Close}
use Rattle.client_listener.specs.Outbox.{is_wide, goes}
use Rattle.client_listener.specs.Writing.{written_of, IsInRoom}

-- what was taken and has no frame: nothing while the transport stays open; the Close; the item that is wider than the client takes, or for
-- which memory ran out
abbrev pub StopsBy : ℕ → Result Bool ListenFault → List ToClient → Type 0
StopsBy limit (Ok true) rest = rest ≡ []
StopsBy limit (Ok false) rest = rest ≡ Close ∷ []
StopsBy limit (Err fault.Wide) rest = (item : ToClient) × (rest ≡ item ∷ []) × (is_wide limit item ≡ true)
StopsBy limit (Err fault.Memory) rest = (item : ToClient) × (rest ≡ item ∷ [])
StopsBy limit (Err other) rest = ⊥

-- no item that was known to be in a ring is lost, but one that was taken
abbrev pub KeepsKnown : {T A P : Type 0} → Consumer T A P → Consumer T A P → Type 0
KeepsKnown old new = length (received old) + length (known_items old) ≤ length (received new) + length (known_items new)

-- these items were taken out of a ring, each as its protocol allows and while few octets waited; the frames of all but a rest were put after
-- the octets that waited
pub record Gathers (allows : List ToClient → ToClient → Type 0) (limit : ℕ) (result : Result Bool ListenFault)
    (before after : List ToClient) (old new : List ℕ) : Type 0 where
  pub items : List ToClient
  pub rest : List ToClient
  pub are_taken : after ≡ before ++ (items ++ rest)
  pub are_allowed : Allowed allows before (items ++ rest)
  pub are_in_room : Allowed (IsInRoom old) [] (items ++ rest)
  pub all_go : list_all (goes limit) items ≡ true
  pub wait : new ≡ old ++ written_of items
  pub is_left : StopsBy limit result rest
