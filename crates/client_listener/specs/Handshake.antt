-- How a handshake is read and answered: WAMP specification, "RawSocket Transport", "Handshake".
use Rattle.std.specs.Prelude.{◌≡◌, ℕ, ◌<◌, Bool, List, [], ◌∷◌, length, Option, None, Some, Result, Ok, Err}
use Rattle.std.specs.Io.KnownBytes.{Appends, Consumes, IsAtEnd}
use Rattle.wamp_rawsocket.specs.declared.handshake_answer.Answer.{Answer}
use Rattle.wamp_rawsocket.specs.declared.handshake_answer.Answer.TheVariants.{Terms, Refuse, Hang}
use Rattle.wamp_rawsocket.specs.Handshake.{answer_of}
use Rattle.client_listener.specs.declared.fault.ListenFault.{ListenFault}
use Rattle.client_listener.specs.declared.fault.ListenFault.TheVariants.{Handshake, Read, Write}

-- one octet was read, or the reader is at its end, or failed
abbrev pub GivesOctet : Result (Option ℕ) ListenFault → Option (List ℕ) → Option (List ℕ) → Type 0
GivesOctet (Ok (Some octet)) old new = Consumes old new (octet ∷ [])
GivesOctet (Ok None) old new = Consumes old new [] × IsAtEnd new
GivesOctet (Err fault) old new = (fault ≡ Read) × Consumes old new []

-- fewer octets were read than a handshake has
abbrev pub ReadsFew : Option (List ℕ) → Option (List ℕ) → Type 0
ReadsFew old new = (octets : List ℕ) × (length octets < 4) × Consumes old new octets

-- four octets were read, or the reader ended before the fourth, or failed
abbrev pub ReadsHandshake : Result (List ℕ) ListenFault → Option (List ℕ) → Option (List ℕ) → Type 0
ReadsHandshake (Ok octets) old new = (length octets ≡ 4) × Consumes old new octets
ReadsHandshake (Err Handshake) old new = ReadsFew old new × IsAtEnd new
ReadsHandshake (Err Read) old new = ReadsFew old new
ReadsHandshake (Err fault) old new = ⊥

-- these octets were written, or the writer failed
abbrev pub Writes : Result (Unit {0}) ListenFault → List ℕ → Option (List ℕ) → Option (List ℕ) → Type 0
Writes (Ok x) octets old new = Appends old new octets
Writes (Err fault) octets old new = fault ≡ Write

-- this answer is written
abbrev pub IsWritten : Answer → Type 0
IsWritten (Terms limit octets) = Unit {0}
IsWritten (Refuse octets) = Unit {0}
IsWritten Hang = ⊥

-- what was written of this answer
module _ {W : Type 0} (contents : W → Option (List ℕ)) (answer : Answer) (old new : W) where
  -- the handshake was refused, or it is of a kind that gets no answer
  pub data TurnsAway : Type 0 where
    refuses : (octets : List ℕ) → answer ≡ Refuse octets → Appends (contents old) (contents new) octets → TurnsAway
    hangs : answer ≡ Hang → new ≡ old → TurnsAway

  -- the terms were written and hold, or the client was turned away, or the writer failed
  abbrev pub Answers : Result ℕ ListenFault → Type 0
  Answers (Ok limit) = (octets : List ℕ) × (answer ≡ Terms limit octets) × Appends (contents old) (contents new) octets
  Answers (Err Handshake) = TurnsAway
  Answers (Err Write) = IsWritten answer
  Answers (Err fault) = ⊥

-- A stream is one value with what is left to be read of it and what was written to it. What a write does to the one and a read
-- to the other depends on the stream, so clauses name the state in which it was read and not yet written.
module _ {S : Type 0} (remaining contents : S → Option (List ℕ)) (room : Bool) (old new : S) where
  -- four octets were read up to this state, and this is the answer to them
  pub record Asked (answer : Answer) (read : S) : Type 0 where
    pub octets : List ℕ
    pub is_whole : length octets ≡ 4
    pub is_answer : answer_of octets room ≡ answer
    pub are_read : Consumes (remaining old) (remaining read) octets

  -- the handshake was cut short, refused, or of a kind that gets no answer
  pub data Rejected : Type 0 where
    cut_short : ReadsFew (remaining old) (remaining new) → IsAtEnd (remaining new) → Rejected
    refused : (octets : List ℕ) (read : S) → Asked (Refuse octets) read → Appends (contents read) (contents new) octets → Rejected
    unanswered : Asked Hang new → Rejected

  -- what was read, the answer to it, and what was written
  abbrev pub Greets : Result ℕ ListenFault → Type 0
  Greets (Ok limit) = (octets : List ℕ) × (read : S) × Asked (Terms limit octets) read × Appends (contents read) (contents new) octets
  Greets (Err Handshake) = Rejected
  Greets (Err Read) = ReadsFew (remaining old) (remaining new)
  Greets (Err Write) = (answer : Answer) × (read : S) × Asked answer read × IsWritten answer
  Greets (Err fault) = ⊥
