-- What is put into a node's ring for the octets that a client sends after its handshake (WAMP specification, "RawSocket
-- Transport").
use Rattle.std.specs.Prelude.{◌≡◌, ◌≤◌, ◌^◌, ◌⊎◌, ℕ, min, List, [], ◌∷◌, ◌++◌, length, Option, None, Some, Result, Ok, Err, IfSome}
use Rattle.std.specs.Option.{option_to_list}
use Rattle.std.specs.Io.KnownBytes.{Consumes}
use Rattle.std.specs.declared.alloc.Global.{Global}
use Rattle.rtrb.specs.Ring.{all_sent}
use Rattle.rtrb.specs.declared.AnyItems.{AnyItems}
use Rattle.rtrb.specs.declared.finished.Finished.{Finished}
use Rattle.wamp_rawsocket.specs.declared.fault.FrameFault.TheVariants.{Failed}
use Rattle.wamp_rawsocket.specs.Splitter.{Front, partial, whole, faulty, Frames, ended, broken, frame, frames_of, end_of}
use Rattle.client_listener.specs.declared.fault.ListenFault.{ListenFault}
use Rattle.client_listener.specs.declared.fault.ListenFault.TheVariants as fault
use Rattle.client_listener.specs.declared.items.FromClient.{FromClient}
use Rattle.client_listener.specs.declared.items.FromClient.TheVariants.{Connect, Hung}
use Rattle.client_listener.specs.Items.{item_of}

-- the items of a stream's frames, and then that nothing more comes
abbrev pub items_of : Frames → List FromClient
items_of ended = Hung ∷ []
items_of (broken shown) = Hung ∷ []
items_of (frame kind payload others) = option_to_list (item_of kind payload) ++ items_of others

-- what is put for these octets
abbrev pub put_of : List ℕ → List FromClient
put_of octets = Connect ∷ items_of (frames_of octets)

-- here is a fault
abbrev pub IsFaulty : Front → Type 0
IsFaulty partial = ⊥
IsFaulty (whole kind payload rest) = ⊥
IsFaulty (faulty shown) = Unit {0}

-- these octets are all that a reader had, if it says what it has
abbrev pub IsAll : Option (List ℕ) → List ℕ → Type 0
IsAll None octets = Unit {0}
IsAll (Some input) octets = input ≡ octets

-- the turns that a call has, of those that it is given: 2^32 at the most
abbrev pub turns_of : ℕ → ℕ
turns_of turns = min turns (2 ^ 32)

-- how it ended: at the reader's end, at a fault of the frames and at a failed read this alone was left out; the turns were spent only if as many
-- octets were read as there were turns, or as many items put as there were slots that the producer knew to be free, so that the ring was full
abbrev pub EndsBut : ℕ → ℕ → List FromClient → Result (Unit {0}) ListenFault → Option (List ℕ) → List ℕ → List FromClient
    → List FromClient → Type 0
EndsBut most free last (Ok x) input octets put rest = (rest ≡ last) × (end_of (frames_of octets) ≡ partial) × IsAll input octets
EndsBut most free last (Err fault.Frame) input octets put rest = (rest ≡ last) × IsFaulty (end_of (frames_of octets))
EndsBut most free last (Err fault.Read) input octets put rest = (rest ≡ last) × (end_of (frames_of octets) ≡ partial)
EndsBut most free last (Err fault.Turns) input octets put rest = (most ≤ length octets) ⊎ (free ≤ length put)
EndsBut most free last (Err fault.Memory) input octets put rest = Unit {0}
EndsBut most free last (Err other) input octets put rest = ⊥

-- these octets were read, and all that is put for them was put, but for a rest
pub record PutsAllBut (most free : ℕ) (last : List FromClient) (result : Result (Unit {0}) ListenFault) (old new : Option (List ℕ))
    (before after : List FromClient) : Type 0 where
  pub octets : List ℕ
  pub are_read : Consumes old new octets
  pub put : List FromClient
  pub are_put : after ≡ before ++ put
  pub rest : List FromClient
  pub is_due : put_of octets ≡ put ++ rest
  pub is_left : EndsBut most free last result old octets put rest

-- all was put at the reader's end, at a fault of the frames and at a failed read; else a prefix of it
abbrev pub Puts : ℕ → ℕ → Result (Unit {0}) ListenFault → Option (List ℕ) → Option (List ℕ) → List FromClient → List FromClient → Type 0
Puts most free result old new before after = PutsAllBut most free [] result old new before after

-- it ended so, and what finished shows all that was put into the ring
abbrev pub Finishes : ℕ → ℕ → Result (Unit {0}) ListenFault → Option (List ℕ) → Option (List ℕ) → List FromClient
    → Option (Finished FromClient Global AnyItems) → Type 0
Finishes most free result old new before finished = (after : List FromClient) × Puts most free result old new before after
    × IfSome finished (λ f. all_sent f ≡ after)

-- the rest of a stream of which this is held, once these octets come, too
abbrev pub left_of : Option (List ℕ) → List ℕ → Frames
left_of None more = broken Failed
left_of (Some held) more = frames_of (held ++ more)
