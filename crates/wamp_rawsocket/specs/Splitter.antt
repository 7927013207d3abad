-- How a stream of octets is cut into frames: WAMP specification, "RawSocket Transport", "Framing".
-- That a fault ends the stream for good is this project's profile.
use Rattle.std.specs.Prelude.{◌≡◌, ◌≤◌, ◌+◌, ℕ, zero, suc, List, [], ◌∷◌, ◌++◌, Option, Some, None, Result, Ok, Err, length, take, drop, nat_lt, if◌then◌else◌}
use Rattle.wamp_rawsocket.specs.declared.fault.FrameFault.{FrameFault}
use Rattle.wamp_rawsocket.specs.declared.fault.FrameFault.TheVariants.{Memory, Failed}
use Rattle.wamp_rawsocket.specs.declared.frame.Frame.{Frame}
use Rattle.wamp_rawsocket.specs.declared.frame.FrameKind.{FrameKind}
use Rattle.wamp_rawsocket.specs.declared.frame.FrameRef.{FrameRef}
use Rattle.wamp_rawsocket.specs.declared.splitter.Measured.{Measured}
use Rattle.wamp_rawsocket.specs.Frame.{frame_octets, header_of, length_of}

-- what is at the front of a stream: too few octets to know, a whole frame and the octets after it, or a fault
pub data Front : Type 0 where
  partial : Front
  whole : (kind : FrameKind) (payload rest : List ℕ) → Front
  faulty : (fault : FrameFault) → Front

-- the front, given what its first four octets show and the octets after those
abbrev pub behind : Result FrameKind FrameFault → ℕ → List ℕ → Front
behind (Err fault) len rest = faulty fault
behind (Ok kind) len rest = if nat_lt (length rest) len then partial else whole kind (take len rest) (drop len rest)

-- what is at the front of these octets; a fault is shown by the first four alone
abbrev pub front_of : List ℕ → Front
front_of (octet ∷ high ∷ middle ∷ low ∷ rest) = let len = length_of high middle low in behind (header_of octet len) len rest
front_of _ = partial

-- the answer of `next` at this front of the octets that a splitter holds, and what it holds then
abbrev pub given : Front → List ℕ → Result (Option Frame) FrameFault × Option (List ℕ)
given partial octets = (Ok None, Some octets)
given (whole kind payload rest) octets = (Ok (Some (record { kind = kind; payload = payload })), Some rest)
given (faulty fault) octets = (Err fault, None)

-- the answer of `next`, and what the splitter holds then; one that failed holds nothing
abbrev pub next_of : Option (List ℕ) → Result (Option Frame) FrameFault × Option (List ℕ)
next_of None = (Err Failed, None)
next_of (Some octets) = given (front_of octets) octets

-- a whole frame is at this front
abbrev pub IsWhole : Front → Type 0
IsWhole partial = ⊥
IsWhole (whole kind payload rest) = Unit {0}
IsWhole (faulty fault) = ⊥

-- a splitter holds a whole frame
abbrev pub HoldsFrame : Option (List ℕ) → Type 0
HoldsFrame None = ⊥
HoldsFrame (Some octets) = IsWhole (front_of octets)

-- what `next` does; running out of memory comes only in the place of a whole frame, and changes nothing
abbrev pub Gives : Result (Option Frame) FrameFault → Option (List ℕ) → Option (List ℕ) → Type 0
Gives (Err Memory) old new = HoldsFrame old × (new ≡ old)
Gives result old new = next_of old ≡ (result, new)

-- an answer of `front` as one of `next`
abbrev pub shown : Result (Option FrameRef) FrameFault → Result (Option Frame) FrameFault
shown (Ok None) = Ok None
shown (Ok (Some front)) = Ok (Some (record { kind = front.kind; payload = front.payload.now }))
shown (Err fault) = Err fault

-- what is left after the frame at this front of these octets, if one is there
abbrev pub left_at : Front → List ℕ → List ℕ
left_at partial octets = octets
left_at (whole kind payload rest) octets = rest
left_at (faulty fault) octets = octets

-- what a splitter holds once it skipped the frame at its front
abbrev pub passed : List ℕ → List ℕ
passed octets = left_at (front_of octets) octets

-- what the first four octets say of the frame that they begin
abbrev pub Measures : Result (Option Measured) FrameFault → List ℕ → Type 0
Measures (Ok None) octets = front_of octets ≡ partial
Measures (Ok (Some frame)) octets =
    (front_of octets ≡ whole frame.kind (drop 4 (take (4 + frame.length) octets)) (drop (4 + frame.length) octets))
    × (4 + frame.length ≤ length octets)
Measures (Err fault) octets = front_of octets ≡ faulty fault

-- a stream cut into frames: up to a rest that is no whole frame, or up to a fault, after which nothing is read
pub data Frames : Type 0 where
  ended : Frames
  broken : (fault : FrameFault) → Frames
  frame : (kind : FrameKind) (payload : List ℕ) (others : Frames) → Frames

-- the stream with this front, given how the octets after a frame are cut
abbrev pub cut_at : Front → (List ℕ → Frames) → Frames
cut_at partial cut = ended
cut_at (whole kind payload rest) cut = frame kind payload (cut rest)
cut_at (faulty fault) cut = broken fault

-- the stream cut into its frames, if there are at most `most`
abbrev pub cut_within : ℕ → List ℕ → Frames
cut_within zero octets = ended
cut_within (suc most) octets = cut_at (front_of octets) (cut_within most)

-- the stream cut into its frames, of which there are no more than octets
unfoldable pub frames_of : List ℕ → Frames
frames_of octets = cut_within (length octets) octets

-- the octets of a stream's frames, one after another
abbrev pub octets_of : Frames → List ℕ
octets_of ended = []
octets_of (broken fault) = []
octets_of (frame kind payload others) = frame_octets kind payload ++ octets_of others

-- what follows a stream's frames
abbrev pub end_of : Frames → Front
end_of ended = partial
end_of (broken fault) = faulty fault
end_of (frame kind payload others) = end_of others
