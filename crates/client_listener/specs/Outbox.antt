-- The frame of what a node hands to a client's transport, and how frames are gathered.
use Rattle.std.specs.Prelude.{◌≡◌, ℕ, nat_lt, Bool, true, false, not, List, [], ◌++◌, length, Option, Result, Ok, Err}
use Rattle.std.specs.Io.KnownBytes.{Appends}
use Rattle.wamp_messages.specs.Writing.{text_of}
use Rattle.wamp_rawsocket.specs.declared.frame.FrameKind.{FrameKind}
use Rattle.wamp_rawsocket.specs.declared.frame.FrameKind.TheVariants as kind
use Rattle.wamp_rawsocket.specs.Frame.{frame_octets, outbound_limit}
use Rattle.client_listener.specs.declared.fault.ListenFault.{ListenFault}
use Rattle.client_listener.specs.declared.fault.ListenFault.TheVariants as fault
use Rattle.client_listener.specs.declared.items.ToClient.{ToClient}
use Rattle.client_listener.specs.declared.items.ToClient.TheVariants.{Send, Pong, Close}

-- the octets that are written for an item
abbrev pub frame_of : ToClient → List ℕ
frame_of (Send message) = frame_octets kind.Message (text_of message)
frame_of (Pong payload) = frame_octets kind.Pong payload
frame_of Close = []

-- a payload is wider than a client with this limit takes
abbrev pub is_over : ℕ → List ℕ → Bool
is_over limit payload = nat_lt (outbound_limit limit) (length payload)

-- an item is wider than the client takes
abbrev pub is_wide : ℕ → ToClient → Bool
is_wide limit (Send message) = is_over limit (text_of message)
is_wide limit (Pong payload) = is_over limit payload
is_wide limit Close = false

-- an item is written: it does not close the transport, and is not too wide
abbrev pub goes : ℕ → ToClient → Bool
goes limit (Send message) = not (is_wide limit (Send message))
goes limit (Pong payload) = not (is_wide limit (Pong payload))
goes limit Close = false

-- ---- the frames that wait to be written

-- a frame was put after the others, or it is too wide, or memory ran out
abbrev pub Frames : ℕ → FrameKind → List ℕ → Result (Unit {0}) ListenFault → List ℕ → List ℕ → Type 0
Frames limit kind payload (Ok x) old new = (is_over limit payload ≡ false) × (new ≡ old ++ frame_octets kind payload)
Frames limit kind payload (Err fault.Wide) old new = (is_over limit payload ≡ true) × (new ≡ old)
Frames limit kind payload (Err fault.Memory) old new = new ≡ old
Frames limit kind payload (Err other) old new = ⊥

-- an item's frame was put after the others, or it closes the transport, is too wide, or memory ran out
abbrev pub Hears : ℕ → ToClient → Result Bool ListenFault → List ℕ → List ℕ → Type 0
Hears limit item (Ok true) old new = (goes limit item ≡ true) × (new ≡ old ++ frame_of item)
Hears limit item (Ok false) old new = (item ≡ Close) × (new ≡ old)
Hears limit item (Err fault.Wide) old new = (is_wide limit item ≡ true) × (new ≡ old)
Hears limit item (Err fault.Memory) old new = new ≡ old
Hears limit item (Err other) old new = ⊥

-- all that waited was written, or the writer failed
abbrev pub Empties : Result (Unit {0}) ListenFault → List ℕ → List ℕ → Option (List ℕ) → Option (List ℕ) → Type 0
Empties (Ok x) old new written now = (new ≡ []) × Appends written now old
Empties (Err other) old new written now = other ≡ fault.Write
