-- The state of a run between its steps, and how a step ends it. This is for private clauses.
use Rattle.std.specs.Prelude.{◌≡◌, ℕ, ◌≤◌, Bool, true, false, List, [], ◌++◌, length, Option, Result, Ok, Err, OnOk}
use Rattle.std.specs.Io.KnownBytes.{Appends, Consumes}
use Rattle.realm_acts.specs.declared.act.Act.{Act}
use Rattle.stream_program.specs.declared.fault.RunFault.{RunFault}
use Rattle.stream_program.specs.declared.progress.Progress.{Progress}
use Rattle.stream_program.specs.declared.progress.Progress.TheVariants.{Onward, Waiting, Closed}
use Rattle.stream_program.specs.declared.service.Service.{Service}
use Rattle.stream_program.specs.Stream.{silent, Run, ends, behind, Ended, Ends}
use Rattle.stream_program.specs.Service.{due_at, owed, HasActed}

-- ---- steps over the writer alone

-- these octets were written, and in place of what was owed this is owed now, whatever comes
pub record Writes (owing onward : List ℕ → Run) (old new : Option (List ℕ)) : Type 0 where
  pub written : List ℕ
  pub is_written : Appends old new written
  pub is_due : (more : List ℕ) → owing more ≡ behind written (onward more)

-- the run is over, whatever the reader has left
abbrev pub IsOver : (List ℕ → Run) → Result (Unit {0}) RunFault → Option (List ℕ) → Option (List ℕ) → Type 0
IsOver owing result old new = (left : Option (List ℕ)) → Ended (owing []) 0 result left old new

-- what was said to the client was written
abbrev pub Tells : Result Progress RunFault → (List ℕ → Run) → (List ℕ → Run) → Option (List ℕ) → Option (List ℕ) → Type 0
Tells (Ok Closed) owing onward old new = IsOver owing (Ok tt) old new
Tells (Ok progress) owing onward old new = Writes owing onward old new
Tells (Err fault) owing onward old new = IsOver owing (Err fault) old new

-- the act was given to the realm, and what it says to the client was written
pub record PerformsOut (result : Result Progress RunFault) (old : Service) (act : Act) (new : Service) (was now : Option (List ℕ)) : Type 0 where
  pub tells : (onward : List ℕ → Run) → Tells result (λ more. behind old.replies.octets (due_at old act (onward more))) onward was now
  pub none_waits : OnOk result (new.replies.octets ≡ [])
  pub has_acted : OnOk result (HasActed old act old.draw new)

-- nothing is owed before more comes
abbrev pub IsIdle : Service → Type 0
IsIdle s = owed s [] ≡ ends silent

-- a frame was answered, or none was there, or the run is over
abbrev pub Steps : Result Progress RunFault → Service → Service → Option (List ℕ) → Option (List ℕ) → Type 0
Steps (Ok Onward) s t old new = Writes (owed s) (owed t) old new
Steps (Ok Waiting) s t old new = Writes (owed s) (owed t) old new × IsIdle t
Steps (Ok Closed) s t old new = IsOver (owed s) (Ok tt) old new
Steps (Err fault) s t old new = IsOver (owed s) (Err fault) old new

-- all frames that are there were answered, or the run is over
abbrev pub AnswersAll : Result Bool RunFault → Service → Service → Option (List ℕ) → Option (List ℕ) → Type 0
AnswersAll (Ok true) s t old new = Writes (owed s) (owed t) old new × IsIdle t
AnswersAll (Ok false) s t old new = IsOver (owed s) (Ok tt) old new
AnswersAll (Err fault) s t old new = IsOver (owed s) (Err fault) old new

-- ---- steps over the reader, too

-- at least this many octets were read, and these written, and in place of what was owed this is owed now, whatever comes
pub record Goes (owing onward : List ℕ → Run) (least : ℕ) (input left old new : Option (List ℕ)) : Type 0 where
  pub read : List ℕ
  pub are_read : Consumes input left read
  pub enough : least ≤ length read
  pub written : List ℕ
  pub is_written : Appends old new written
  pub is_due : (more : List ℕ) → owing (read ++ more) ≡ behind written (onward more)

-- one octet was read at least and all frames that are there were answered, or the run is over
abbrev pub Turns : Result Bool RunFault → Service → Service → Option (List ℕ) → Option (List ℕ) → Option (List ℕ) → Option (List ℕ) → Type 0
Turns (Ok true) s t input left old new = Goes (owed s) (owed t) 1 input left old new × IsIdle t
Turns (Ok false) s t input left old new = Ends (owed s) (Ok tt) input left old new
Turns (Err fault) s t input left old new = Ends (owed s) (Err fault) input left old new
