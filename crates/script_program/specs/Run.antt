-- What a script's run leaves (docs/SCRIPTS.md, "How a run ends").
use Rattle.std.specs.Prelude.{◌≡◌, ◌⊎◌, ℕ, ◌≤◌, List, [], length, Option, Result, Ok, Err}
use Rattle.std.specs.declared.vec.Vec.{Vec}
use Rattle.std.specs.Io.KnownBytes.{Appends, Consumes, IsAtEnd}
use Rattle.realm_machine.specs.Config.{Config}
use Rattle.script_program.specs.declared.lines.line.Line.{Line}
use Rattle.script_program.specs.Lines.{script_of}
use Rattle.script_program.specs.declared.lines.LinesFault.{LinesFault}
use Rattle.script_program.specs.declared.lines.LinesFault.TheVariants as lines
use Rattle.script_program.specs.declared.fault.ScriptFault.{ScriptFault}
use Rattle.script_program.specs.declared.fault.ScriptFault.TheVariants as fault
use Rattle.script_program.specs.Reading.{most_reads, StopsBy, WereRead}
use Rattle.script_program.specs.Printing.{Breaks}
use Rattle.script_program.specs.WorldText.{IsTextOf}

abbrev pub fault_of : LinesFault → ScriptFault
fault_of (lines.NotAnEvent number) = fault.Line number
fault_of lines.Memory = fault.Memory

-- the octets spell lines, and this is the text of the world to which these lead
pub record IsTold (config : Config) (members : ℕ) (octets text : List ℕ) : Type 0 where
  pub lines : List Line
  pub spelled : script_of members octets ≡ Ok lines
  pub is_text : IsTextOf config members lines text

-- there are no lines: this is the first bad one, or not all was read
abbrev pub LacksLines : ℕ → ScriptFault → Option (List ℕ) → Option (List ℕ) → Type 0
LacksLines members (fault.Line number) input left =
    (octets : List ℕ) × WereRead 0 input left octets × IsAtEnd left × (script_of members octets ≡ Err number)
LacksLines members fault.Memory input left = StopsBy fault.Memory input left
LacksLines members fault.Read input left = StopsBy fault.Read input left
LacksLines members fault.Write input left = ⊥
LacksLines members fault.Reads input left = StopsBy fault.Reads input left

-- the octets spell these lines
abbrev pub ReadsLines : {Z : Type 0} → ℕ → Result (Vec Line Z) ScriptFault → Option (List ℕ) → Option (List ℕ) → Type 0
ReadsLines members (Ok lines) input left =
    (octets : List ℕ) × WereRead 0 input left octets × IsAtEnd left
    × (script_of members octets ≡ Ok lines.items)
ReadsLines members (Err met) input left = LacksLines members met input left

-- nothing was written, or all lines were read and the beginning of the text was written
abbrev pub BreaksOff : Config → ℕ → List ℕ → Option (List ℕ) → Option (List ℕ) → Option (List ℕ) → Type 0
BreaksOff config members octets left old new =
    Appends old new [] ⊎ ((text : List ℕ) × IsTold config members octets text × IsAtEnd left × Breaks old new text)

-- how the run ended, if these octets were read
abbrev pub Ended : Config → ℕ → List ℕ → Result (Unit {0}) ScriptFault → Option (List ℕ) → Option (List ℕ) → Option (List ℕ) → Type 0
Ended config members octets (Ok x) left old new =
    (text : List ℕ) × IsTold config members octets text × IsAtEnd left × Appends old new text
Ended config members octets (Err (fault.Line number)) left old new =
    (script_of members octets ≡ Err number) × IsAtEnd left × Appends old new []
Ended config members octets (Err fault.Memory) left old new = BreaksOff config members octets left old new
Ended config members octets (Err fault.Read) left old new = Appends old new []
Ended config members octets (Err fault.Write) left old new = (text : List ℕ) × IsTold config members octets text × IsAtEnd left
Ended config members octets (Err fault.Reads) left old new = (most_reads ≤ length octets) × Appends old new []

-- these octets were read; if the reader's bytes are known they are its next ones. They are all of them, unless the reader failed or memory
-- ran out; and what is written is the text of the world to which their lines lead, unless there was a fault
abbrev pub Ends : Config → ℕ → Result (Unit {0}) ScriptFault → Option (List ℕ) → Option (List ℕ) → Option (List ℕ)
    → Option (List ℕ) → Type 0
Ends config members result input left old new =
    (octets : List ℕ) × Consumes input left octets × Ended config members octets result left old new
