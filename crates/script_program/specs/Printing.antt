-- A text is written through a buffer.
use Rattle.std.specs.Prelude.{◌≡◌, ℕ, List, ◌++◌, Option, Result, Ok, Err}
use Rattle.std.specs.Io.KnownBytes.{Appends}
use Rattle.script_program.specs.declared.fault.ScriptFault.{ScriptFault}
use Rattle.script_program.specs.declared.fault.ScriptFault.TheVariants as fault

-- of what waited, followed by the text, the beginning was written, and the rest waits
pub record Passes (old new : Option (List ℕ)) (waited waits text : List ℕ) : Type 0 where
  pub written : List ℕ
  pub is_written : Appends old new written
  pub is_all : waited ++ text ≡ written ++ waits

-- the beginning of it was written
pub record Breaks (old new : Option (List ℕ)) (all : List ℕ) : Type 0 where
  pub written : List ℕ
  pub rest : List ℕ
  pub is_written : Appends old new written
  pub is_all : all ≡ written ++ rest

-- the text was appended to what waited
abbrev pub Prints : Result (Unit {0}) ScriptFault → Option (List ℕ) → Option (List ℕ) → List ℕ → List ℕ → List ℕ → Type 0
Prints (Ok x) old new waited waits text = Passes old new waited waits text
Prints (Err (fault.Line number)) old new waited waits text = ⊥
Prints (Err fault.Memory) old new waited waits text = Breaks old new (waited ++ text)
Prints (Err fault.Read) old new waited waits text = ⊥
Prints (Err fault.Write) old new waited waits text = Unit {0}
Prints (Err fault.Reads) old new waited waits text = ⊥

-- all that waited was written
abbrev pub Closes : Result (Unit {0}) ScriptFault → Option (List ℕ) → Option (List ℕ) → List ℕ → Type 0
Closes (Ok x) old new waited = Appends old new waited
Closes (Err met) old new waited = met ≡ fault.Write

-- a text is under way: of the whole text this much is written or waits, and the rest is still to come
pub record Underway (old new : Option (List ℕ)) (waited waits whole rest : List ℕ) : Type 0 where
  pub text : List ℕ
  pub passes : Passes old new waited waits text
  pub is_whole : text ++ rest ≡ whole

-- ---- a text that is unique, described by what holds of it

abbrev pub PrintsSome : (List ℕ → Type 0) → Result (Unit {0}) ScriptFault → Option (List ℕ) → Option (List ℕ) → List ℕ → List ℕ → Type 0
PrintsSome IsText result old new waited waits = (text : List ℕ) × IsText text × Prints result old new waited waits text

-- the text was written
abbrev pub Writes : Result (Unit {0}) ScriptFault → Option (List ℕ) → Option (List ℕ) → List ℕ → Type 0
Writes (Ok x) old new text = Appends old new text
Writes (Err (fault.Line number)) old new text = ⊥
Writes (Err fault.Memory) old new text = Breaks old new text
Writes (Err fault.Read) old new text = ⊥
Writes (Err fault.Write) old new text = Unit {0}
Writes (Err fault.Reads) old new text = ⊥

abbrev pub WritesSome : (List ℕ → Type 0) → Result (Unit {0}) ScriptFault → Option (List ℕ) → Option (List ℕ) → Type 0
WritesSome IsText result old new = (text : List ℕ) × IsText text × Writes result old new text
