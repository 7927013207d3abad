-- What stands for a frame in a node's ring, and how frames are cut. But for `item_of` this is for private clauses.
use Rattle.std.specs.Prelude.{◌≡◌, ℕ, List, length, Option, None, Some, Result, Ok, Err}
use Rattle.wamp_messages.specs.Reading.{read_of}
use Rattle.wamp_rawsocket.specs.declared.fault.FrameFault.{FrameFault}
use Rattle.wamp_rawsocket.specs.declared.frame.Frame.{Frame}
use Rattle.wamp_rawsocket.specs.declared.frame.FrameKind.{FrameKind}
use Rattle.wamp_rawsocket.specs.declared.frame.FrameKind.TheVariants as kind
use Rattle.wamp_rawsocket.specs.Splitter.{partial, whole, faulty, front_of}
use Rattle.client_listener.specs.declared.fault.ListenFault.{ListenFault}
use Rattle.client_listener.specs.declared.fault.ListenFault.TheVariants as fault
use Rattle.client_listener.specs.declared.items.FromClient.{FromClient}
use Rattle.client_listener.specs.declared.items.FromClient.TheVariants.{Read, Ping}

-- the item for a frame: what is read of a message, the octets of a PING, and none for a PONG
abbrev pub item_of : FrameKind → List ℕ → Option FromClient
item_of kind.Message payload = Some (Read (read_of payload))
item_of kind.Ping payload = Some (Ping payload)
item_of kind.Pong payload = None

-- the item was made, or memory ran out
abbrev pub Makes : Result (Option FromClient) ListenFault → Option FromClient → Type 0
Makes (Ok made) item = made ≡ item
Makes (Err other) item = other ≡ fault.Memory

-- how many octets are held
abbrev pub held_len : Option (List ℕ) → ℕ
held_len None = 0
held_len (Some held) = length held

-- the frame at the front was taken, none was there, or the front shows a fault
abbrev pub Takes : Result (Option Frame) ListenFault → Option (List ℕ) → Option (List ℕ) → Type 0
Takes result None new = result ≡ Err fault.Frame
Takes (Ok (Some frame)) (Some held) new = (rest : List ℕ) × (front_of held ≡ whole frame.kind frame.payload rest) × (new ≡ Some rest)
Takes (Ok None) (Some held) new = (front_of held ≡ partial) × (new ≡ Some held)
Takes (Err fault.Memory) (Some held) new = Unit {0}
Takes (Err other) (Some held) new = (other ≡ fault.Frame) × ((shown : FrameFault) × (front_of held ≡ faulty shown))
