-- How what a client sends goes into its node's ring in steps, each of which waits for nothing.
use Rattle.std.specs.Prelude.{◌≡◌, ◌≤◌, ◌+◌, ℕ, Bool, true, false, List, [], ◌∷◌, ◌++◌, length, None, Result, Ok, Err}
use Rattle.std.specs.Option.{option_to_list}
use Rattle.rtrb.specs.Ring.{sent, known_free}
use Rattle.rtrb.specs.declared.producer.Producer.{Producer}
use Rattle.wamp_rawsocket.specs.Splitter.{Frames, ended, broken, frame, partial, frames_of, end_of}
use Rattle.client_listener.specs.declared.fault.ListenFault.{ListenFault}
use Rattle.client_listener.specs.declared.fault.ListenFault.TheVariants as fault
use Rattle.client_listener.specs.declared.items.FromClient.{FromClient}
use Rattle.client_listener.specs.declared.items.FromClient.TheVariants.{Hung}
use Rattle.client_listener.specs.Pending.{Pending}
use Rattle.client_listener.specs.Reading.{items_of, put_of, left_of, IsFaulty}

-- a fault ends these frames; which one it was is not kept
abbrev pub is_broken : Frames → Bool
is_broken ended = false
is_broken (broken shown) = true
is_broken (frame kind payload others) = is_broken others

-- no item that was put into a ring is lost, and no slot that was known to be free, but to an item
abbrev pub KeepsRoom : {T A P : Type 0} → Producer T A P → Producer T A P → Type 0
KeepsRoom old new = (length (sent old) ≤ length (sent new))
    × (known_free old + length (sent old) ≤ known_free new + length (sent new))

-- nothing has failed; what is due for these octets was put, or is the item that waits, or remains to be cut from what is held, whatever octets
-- come
pub record Inflow (read : List ℕ) (before after : List FromClient) (pending : Pending) : Type 0 where
  pub is_live : pending.fault ≡ None
  pub put : List FromClient
  pub are_put : after ≡ before ++ put
  pub is_due : (more : List ℕ) → put_of (read ++ more)
      ≡ put ++ (option_to_list pending.next ++ items_of (left_of pending.held more))
  pub stands : (more : List ℕ) → is_broken (frames_of (read ++ more)) ≡ is_broken (left_of pending.held more)

-- all that is due for these octets was put, but that nothing more comes
abbrev pub IsPut : List ℕ → List FromClient → List FromClient → Type 0
IsPut read before after = (put : List FromClient) × (after ≡ before ++ put) × (put_of read ≡ put ++ Hung ∷ [])

-- what was put is a prefix of what is due for these octets
pub record IsFront (read : List ℕ) (before after : List FromClient) : Type 0 where
  pub put : List FromClient
  pub are_put : after ≡ before ++ put
  pub rest : List FromClient
  pub is_due : put_of read ≡ put ++ rest

-- the items of all whole frames were put; or the ring is full; or what follows is no frame; or memory ran out
abbrev pub PutsOn : Result Bool ListenFault → List ℕ → List FromClient → List FromClient → Pending → Type 0
PutsOn (Ok true) read before after pending =
    Inflow read before after pending × (pending.next ≡ None) × IsPut read before after × (end_of (frames_of read) ≡ partial)
PutsOn (Ok false) read before after pending = Inflow read before after pending
PutsOn (Err fault.Frame) read before after pending = IsPut read before after × IsFaulty (end_of (frames_of read))
PutsOn (Err fault.Memory) read before after pending = IsFront read before after
PutsOn (Err other) read before after pending = ⊥

-- ---- For private clauses.

-- a frame was cut, and its item waits; or no whole one is held; or what follows is no frame; or memory ran out
abbrev pub CutsOn : Result Bool ListenFault → List ℕ → List FromClient → List FromClient → Pending → Type 0
CutsOn (Ok true) read before after pending = Inflow read before after pending
CutsOn (Ok false) read before after pending = PutsOn (Ok true) read before after pending
CutsOn (Err other) read before after pending = PutsOn (Err other) read before after pending
