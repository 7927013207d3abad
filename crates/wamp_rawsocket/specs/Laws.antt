-- What follows from the definitions of frames and of the cutting of a stream.
use Rattle.std.specs.Prelude.{◌≡◌, ℕ, ◌<◌, ◌≤◌, ◌^◌, List, ◌++◌, length, slice_index, All}
use Rattle.wamp_rawsocket.specs.declared.fault.FrameFault.{FrameFault}
use Rattle.wamp_rawsocket.specs.declared.frame.FrameKind.{FrameKind}
use Rattle.wamp_rawsocket.specs.Frame.{frame_octets, inbound_limit}
use Rattle.wamp_rawsocket.specs.Handshake.{limit_of, terms}
use Rattle.wamp_rawsocket.specs.Splitter.{partial, whole, faulty, front_of, ended, broken, frame, frames_of, octets_of, end_of}

-- the octets that accept a client announce the limit that is kept
abbrev pub TermsTellTheLimit : Type 0
TermsTellTheLimit = limit_of (slice_index terms 1) ≡ inbound_limit

-- a whole frame at the front of a stream is the octets there
abbrev pub WholeIsItsOctets : Type 0
WholeIsItsOctets =
    (octets payload rest : List ℕ) (kind : FrameKind) → All (λ octet. octet < 2 ^ 8) octets → front_of octets ≡ whole kind payload rest
    → (octets ≡ frame_octets kind payload ++ rest) × (length payload ≤ inbound_limit)

-- a frame that is received is read back from its octets, whatever follows
abbrev pub FrameIsReadBack : Type 0
FrameIsReadBack =
    (kind : FrameKind) (payload rest : List ℕ) → length payload ≤ inbound_limit
    → front_of (frame_octets kind payload ++ rest) ≡ whole kind payload rest

-- a whole frame stays at the front when more octets come
abbrev pub WholeStays : Type 0
WholeStays =
    (octets payload rest more : List ℕ) (kind : FrameKind) → front_of octets ≡ whole kind payload rest
    → front_of (octets ++ more) ≡ whole kind payload (rest ++ more)

-- what follows a whole frame is shorter than the stream that begins with it
abbrev pub WholeLeavesLess : Type 0
WholeLeavesLess =
    (octets payload rest : List ℕ) (kind : FrameKind) → front_of octets ≡ whole kind payload rest → length rest < length octets

-- a fault stays at the front when more octets come
abbrev pub FaultStays : Type 0
FaultStays =
    (octets more : List ℕ) (fault : FrameFault) → front_of octets ≡ faulty fault → front_of (octets ++ more) ≡ faulty fault

-- the frames of a stream that begins with a whole frame: that frame, and those of what follows it
abbrev pub FramesAtWhole : Type 0
FramesAtWhole =
    (octets payload rest more : List ℕ) (kind : FrameKind) → front_of octets ≡ whole kind payload rest
    → frames_of (octets ++ more) ≡ frame kind payload (frames_of (rest ++ more))

-- a stream that begins with a fault has no frame
abbrev pub FramesAtFault : Type 0
FramesAtFault =
    (octets more : List ℕ) (fault : FrameFault) → front_of octets ≡ faulty fault → frames_of (octets ++ more) ≡ broken fault

-- nor has one that ends within its first frame
abbrev pub FramesAtEnd : Type 0
FramesAtEnd = (octets : List ℕ) → front_of octets ≡ partial → frames_of octets ≡ ended

-- the frames of a stream that begins with the octets of a frame: that frame, and those of what follows it
abbrev pub FramesReadBack : Type 0
FramesReadBack =
    (kind : FrameKind) (payload more : List ℕ) → length payload ≤ inbound_limit
    → frames_of (frame_octets kind payload ++ more) ≡ frame kind payload (frames_of more)

-- a stream is its frames, followed by a rest that has no whole frame at its front
abbrev pub StreamIsItsFrames : Type 0
StreamIsItsFrames =
    (octets : List ℕ) → All (λ octet. octet < 2 ^ 8) octets
    → (rest : List ℕ) × (octets ≡ octets_of (frames_of octets) ++ rest) × (front_of rest ≡ end_of (frames_of octets))
