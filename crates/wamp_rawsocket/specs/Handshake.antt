-- The answer to a client's handshake: WAMP specification, "RawSocket Transport", "Handshake".
-- The order of the checks, and that a client's limit is never more than a frame can say, are this project's profile.
use Rattle.std.specs.Prelude.{ℕ, ◌+◌, ◌*◌, ◌/◌, ◌%◌, ◌^◌, ◌≤◌, Bool, not, ◌&&◌, ◌==◌, if◌then◌else◌, List, [], ◌∷◌}
use Rattle.wamp_rawsocket.specs.Frame.{outbound_limit, longest_payload}
use Rattle.wamp_rawsocket.specs.declared.handshake_answer.Answer.{Answer}
use Rattle.wamp_rawsocket.specs.declared.handshake_answer.Answer.TheVariants.{Terms, Refuse, Hang}

-- the longest payload that is received under a handshake's second octet, whose high half is L: 2^(9+L)
abbrev pub limit_of : ℕ → ℕ
limit_of offer = outbound_limit (2 ^ (9 + offer / 16))

-- the octets that take a client on: up to 2^20 octets are received, in JSON
abbrev pub terms : List ℕ
terms = 0x7F ∷ 0xB1 ∷ 0 ∷ 0 ∷ []

-- the octets that refuse a client, with an error code
abbrev pub refusal : ℕ → List ℕ
refusal code = 0x7F ∷ (16 * code) ∷ 0 ∷ 0 ∷ []

-- the answer to the four octets of a handshake
abbrev pub answer_of : List ℕ → Bool → Answer
answer_of (first ∷ offer ∷ third ∷ fourth ∷ []) room =
    if not (first == 0x7F) then Hang else
    (if not (third == 0 && fourth == 0) then Refuse (refusal 3) else
    (if not (offer % 16 == 1) then Refuse (refusal 1) else
    (if not room then Refuse (refusal 4) else Terms (limit_of offer) terms)))
answer_of octets room = Hang

-- a limit that is handed out is one that the three octets of a frame's length can say
abbrev pub HasFramedLimit : Answer → Type 0
HasFramedLimit (Terms limit octets) = limit ≤ longest_payload
HasFramedLimit (Refuse octets) = Unit {0}
HasFramedLimit Hang = Unit {0}
