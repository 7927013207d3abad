-- What a coder owes: a spelling of each body, and the reading of any octets.
use Rattle.std.specs.Prelude.{◌≡◌, ℕ, ◌<◌, Option, Some, None, List, [], ◌∷◌, ◌++◌, Result, Ok, Err}
use Rattle.command_codec.specs.declared.fault.CodecFault.{CodecFault}
use Rattle.command_codec.specs.declared.fault.CodecFault.TheVariants.{Short, Tag, Range, Rest, Memory}
use Rattle.command_codec.specs.Number.{Reading}

-- the numbers are octets
abbrev pub AreOctets : List ℕ → Type 0
AreOctets [] = Unit {0}
AreOctets (octet ∷ octets) = (octet < 256) × AreOctets octets

-- the next reading goes on after what was read
abbrev pub and_then : {A C : Type 0} → Reading A → (A → List ℕ → Reading C) → Reading C
and_then (Ok read) next = next read.0 read.1
and_then (Err fault) next = Err fault

-- if a value is spelled, whatever follows, that value is read and what follows is left
abbrev pub IsReadAgain : {A : Type 0} → (A → Option (List ℕ)) → (List ℕ → Reading A) → Type 0
IsReadAgain {A} spelling reading = (value : A) (octets rest : List ℕ) → spelling value ≡ Some octets
    → reading (octets ++ rest) ≡ Ok (value, rest)

-- what is read is spelled by the octets in front of what is left
abbrev pub IsSpelled : {A : Type 0} → (A → Option (List ℕ)) → (List ℕ → Reading A) → Type 0
IsSpelled {A} spelling reading =
    (value : A) (octets rest : List ℕ) → AreOctets octets → reading octets ≡ Ok (value, rest)
    → (front : List ℕ) × (spelling value ≡ Some front) × (octets ≡ front ++ rest)

-- a spelling is put at the end of a list: `Range` if it has none, and the list stays as it was after a fault
abbrev pub Puts : Result (Unit {0}) CodecFault → Option (List ℕ) → List ℕ → List ℕ → Type 0
Puts (Ok _) None old new = ⊥
Puts (Ok _) (Some octets) old new = new ≡ old ++ octets
Puts (Err Short) spelling old new = ⊥
Puts (Err Tag) spelling old new = ⊥
Puts (Err Range) spelling old new = (spelling ≡ None) × (new ≡ old)
Puts (Err Rest) spelling old new = ⊥
Puts (Err Memory) spelling old new = new ≡ old
