-- The state of the reading between its steps. This is for private clauses.
use Rattle.std.specs.Prelude.{◌≡◌, ◌≤◌, ◌<◌, ◌+◌, ◌⊎◌, ℕ, Bool, true, false, List, [], ◌∷◌, ◌++◌, length, Option, Result, Ok, Err, IsErrOf}
use Rattle.std.specs.Io.KnownBytes.{Consumes, IsAtEnd}
use Rattle.wamp_rawsocket.specs.Splitter.{partial, frames_of, end_of}
use Rattle.client_listener.specs.declared.fault.ListenFault.{ListenFault}
use Rattle.client_listener.specs.declared.fault.ListenFault.TheVariants as fault
use Rattle.client_listener.specs.declared.items.FromClient.{FromClient}
use Rattle.client_listener.specs.declared.items.FromClient.TheVariants.{Hung}
use Rattle.client_listener.specs.Pending.{Pending}
use Rattle.client_listener.specs.Inlet.{Inflow, IsPut}
use Rattle.client_listener.specs.Reading.{PutsAllBut}

-- nothing more is put after this outcome
abbrev pub is_cut_short : Result (Unit {0}) ListenFault → Bool
is_cut_short (Err fault.Turns) = true
is_cut_short (Err fault.Memory) = true
is_cut_short outcome = false

-- these octets are held after the others, or memory ran out
abbrev pub Holds : Result Bool ListenFault → List ℕ → Pending → Pending → Type 0
Holds (Ok more) octets old new = (more ≡ true)
    × ((read : List ℕ) (before after : List FromClient) → Inflow read before after old → Inflow (read ++ octets) before after new)
Holds (Err other) octets old new = other ≡ fault.Memory

-- what was read is held after the others; or the reader ended, or a read failed, or memory ran out
abbrev pub Fills : Result Bool ListenFault → Option (List ℕ) → Option (List ℕ) → Pending → Pending → Type 0
Fills (Ok true) left later old new = (octets : List ℕ) × (0 < length octets) × Consumes left later octets
    × ((read : List ℕ) (before after : List FromClient) → Inflow read before after old → Inflow (read ++ octets) before after new)
Fills (Ok false) left later old new = Consumes left later [] × IsAtEnd later
Fills (Err fault.Read) left later old new = Consumes left later []
Fills (Err fault.Memory) left later old new = (octets : List ℕ) × Consumes left later octets
Fills (Err other) left later old new = ⊥

-- this much was read, and what is due for it goes into the ring; turns are left for what is to be read, or the ring was full
pub record Underway (most free : ℕ) (start : Option (List ℕ)) (before : List FromClient) (now : Option (List ℕ)) (after : List FromClient)
    (known turns : ℕ) (pending : Pending) : Type 0 where
  pub octets : List ℕ
  pub are_read : Consumes start now octets
  pub inflow : Inflow octets before after pending
  pub room : free + length before ≤ known + length after
  pub pace : (most ≤ length octets + turns) ⊎ (free + length before ≤ length after)

-- all that is due for what was read was put, but that nothing more comes
abbrev pub Waits : ℕ → ℕ → Option (List ℕ) → List FromClient → Option (List ℕ) → List FromClient → ℕ → ℕ → Pending → Type 0
Waits most free start before now after known turns pending = (u : Underway most free start before now after known turns pending)
    × IsPut u.octets before after × (end_of (frames_of u.octets) ≡ partial)

-- it ended; that nothing more comes is not put yet
abbrev pub Stops : ℕ → ℕ → Option (List ℕ) → List FromClient → Result (Unit {0}) ListenFault → Option (List ℕ) → List FromClient → ℕ
    → ℕ → Type 0
Stops most free start before result now after known turns = PutsAllBut most free (Hung ∷ []) result start now before after
    × (free + length before ≤ known + length after) × (IsErrOf result fault.Turns → turns ≡ 0)

-- the items of all whole frames were put, or it ended
abbrev pub PutsAll : ℕ → ℕ → Option (List ℕ) → List FromClient → Result (Unit {0}) ListenFault → Option (List ℕ) → List FromClient
    → ℕ → ℕ → Pending → Type 0
PutsAll most free start before (Ok x) now after known turns pending = Waits most free start before now after known turns pending
PutsAll most free start before (Err other) now after known turns pending = Stops most free start before (Err other) now after known turns

-- more may come, or it ended
abbrev pub TurnsOn : ℕ → ℕ → Option (List ℕ) → List FromClient → Result Bool ListenFault → Option (List ℕ) → List FromClient → ℕ → ℕ
    → Pending → Type 0
TurnsOn most free start before (Ok true) now after known turns pending = Underway most free start before now after known turns pending
TurnsOn most free start before (Ok false) now after known turns pending = Stops most free start before (Ok tt) now after known turns
TurnsOn most free start before (Err other) now after known turns pending = Stops most free start before (Err other) now after known turns

-- that nothing more comes was put, or the ring had no room for it until the turns were spent
abbrev pub Hangs : Result (Unit {0}) ListenFault → List FromClient → List FromClient → ℕ → ℕ → Type 0
Hangs (Ok x) before after free turns = after ≡ before ++ Hung ∷ []
Hangs (Err other) before after free turns = (other ≡ fault.Turns) × (after ≡ before) × (free ≡ 0) × (turns ≡ 0)
