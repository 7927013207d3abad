-- What a run of a script leaves (docs/SCRIPTS.md, "How a run ends").
use Rattle.std.specs.Prelude.{◌≡◌, ℕ, List, Option, Result, Ok, Err}
use Rattle.script_program.specs.declared.fault.ScriptFault.{ScriptFault}
use Rattle.script_program.specs.Run.{Ends}
use Rattle.stream_program.specs.declared.fault.RunFault.{RunFault}
use Rattle.cluster_program.specs.Fault.{script_fault_of}
use Rattle.stream_program.specs.Stream.{config_of}

abbrev pub answer_to : Result (Unit {0}) ScriptFault → Result (Unit {0}) RunFault
answer_to (Ok x) = Ok x
answer_to (Err fault) = Err (script_fault_of fault)

-- the script ended like this, in a realm of this name with this program's limits, and its fault is turned into the program's
pub record Plays (name : List ℕ) (members : ℕ) (result : Result (Unit {0}) RunFault) (input left old new : Option (List ℕ)) : Type 0 where
  pub ended : Result (Unit {0}) ScriptFault
  pub ends : Ends (config_of name) members ended input left old new
  pub answer : result ≡ answer_to ended
