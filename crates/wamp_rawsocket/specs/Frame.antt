-- The octets of a frame: WAMP specification, "RawSocket Transport", "Framing".
-- That the high five bits of the first octet are zero is this project's profile.
use Rattle.std.specs.Prelude.{ℕ, ◌+◌, ◌-◌, ◌*◌, ◌/◌, ◌%◌, ◌^◌, min, List, [], ◌∷◌, ◌++◌, length, Result, Ok, Err, nat_lt, ◌==◌, if◌then◌else◌}
use Rattle.wamp_rawsocket.specs.declared.fault.FrameFault.{FrameFault}
use Rattle.wamp_rawsocket.specs.declared.fault.FrameFault.TheVariants.{Reserved, BadType, TooLong}
use Rattle.wamp_rawsocket.specs.declared.frame.FrameKind.{FrameKind}
use Rattle.wamp_rawsocket.specs.declared.frame.FrameKind.TheVariants.{Message, Ping, Pong}

-- the type of a frame's kind
abbrev pub code_of : FrameKind → ℕ
code_of Message = 0
code_of Ping = 1
code_of Pong = 2

-- a number below 2^24 in three octets, the highest first
abbrev pub length_octets : ℕ → List ℕ
length_octets n = n / 65536 ∷ n / 256 % 256 ∷ n % 256 ∷ []

-- the number that three octets spell, the highest first
abbrev pub length_of : ℕ → ℕ → ℕ → ℕ
length_of high middle low = high * 65536 + middle * 256 + low

-- a frame: the octet of its kind, the length of its payload, and the payload
abbrev pub frame_octets : FrameKind → List ℕ → List ℕ
frame_octets kind payload = code_of kind ∷ length_octets (length payload) ++ payload

-- the longest payload whose length the three octets can say
abbrev pub longest_payload : ℕ
longest_payload = 2 ^ 24 - 1

-- the longest payload that is put into a frame for a receiver that takes payloads of `limit` octets
abbrev pub outbound_limit : ℕ → ℕ
outbound_limit limit = min limit longest_payload

-- the longest payload that is received
abbrev pub inbound_limit : ℕ
inbound_limit = 2 ^ 20

-- the kind that a first octet of 0, 1 or 2 encodes
abbrev pub kind_of : ℕ → FrameKind
kind_of octet = if octet == 0 then Message else (if octet == 1 then Ping else Pong)

-- what a frame's first octet and its payload's length show: its kind, or the first fault in the order of their numbers
abbrev pub header_of : ℕ → ℕ → Result FrameKind FrameFault
header_of octet len =
    if nat_lt 7 octet then Err Reserved else
    (if nat_lt 2 octet then Err BadType else
    (if nat_lt inbound_limit len then Err TooLong else Ok (kind_of octet)))
