-- A script is read whole.
use Rattle.std.specs.Prelude.{◌≡◌, ℕ, ◌^◌, ◌≤◌, Bool, true, false, List, [], ◌++◌, length, Option, Result, Ok, Err}
use Rattle.std.specs.declared.vec.Vec.{Vec}
use Rattle.std.specs.Io.KnownBytes.{Consumes, IsAtEnd}
use Rattle.script_program.specs.declared.fault.ScriptFault.{ScriptFault}
use Rattle.script_program.specs.declared.fault.ScriptFault.TheVariants as fault

-- how many reads are made at most
abbrev pub most_reads : ℕ
most_reads = 2 ^ 32

-- these octets were read, at least `least` of them
pub record WereRead (least : ℕ) (input left : Option (List ℕ)) (octets : List ℕ) : Type 0 where
  pub are_read : Consumes input left octets
  pub enough : least ≤ length octets

-- one octet or more was appended to the text, or the reader is at its end
abbrev pub ReadsOnce : Result Bool ScriptFault → Option (List ℕ) → Option (List ℕ) → List ℕ → List ℕ → Type 0
ReadsOnce (Ok true) input left old new = (read : List ℕ) × WereRead 1 input left read × (new ≡ old ++ read)
ReadsOnce (Ok false) input left old new = WereRead 0 input left [] × IsAtEnd left × (new ≡ old)
ReadsOnce (Err (fault.Line number)) input left old new = ⊥
ReadsOnce (Err fault.Memory) input left old new = (read : List ℕ) × WereRead 0 input left read
ReadsOnce (Err fault.Read) input left old new = WereRead 0 input left []
ReadsOnce (Err fault.Write) input left old new = ⊥
ReadsOnce (Err fault.Reads) input left old new = ⊥

-- how reading ends short of the end
abbrev pub StopsBy : ScriptFault → Option (List ℕ) → Option (List ℕ) → Type 0
StopsBy (fault.Line number) input left = ⊥
StopsBy fault.Memory input left = (octets : List ℕ) × WereRead 0 input left octets
StopsBy fault.Read input left = (octets : List ℕ) × WereRead 0 input left octets
StopsBy fault.Write input left = ⊥
StopsBy fault.Reads input left = (octets : List ℕ) × WereRead most_reads input left octets

-- all that the reader gives was appended to the text
abbrev pub ReadsInto : Result (Unit {0}) ScriptFault → Option (List ℕ) → Option (List ℕ) → List ℕ → List ℕ → Type 0
ReadsInto (Ok x) input left old new = (read : List ℕ) × WereRead 0 input left read × IsAtEnd left × (new ≡ old ++ read)
ReadsInto (Err fault) input left old new = StopsBy fault input left

-- the text is all that the reader gives
abbrev pub ReadsAll : {Z : Type 0} → Result (Vec ℕ Z) ScriptFault → Option (List ℕ) → Option (List ℕ) → Type 0
ReadsAll (Ok text) input left = WereRead 0 input left text.items × IsAtEnd left
ReadsAll (Err fault) input left = StopsBy fault input left
