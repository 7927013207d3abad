-- Replies that wait to be written. This is for private clauses: what is due (Stream), in terms of what was put after them.
use Rattle.std.specs.Prelude.{◌≡◌, ℕ, List, [], ◌++◌, Option, Result, Ok, Err, MatchResult, IsTrue}
use Rattle.std.specs.Io.KnownBytes.{Appends}
use Rattle.client_listener.specs.Waiting.{WaitingFrames}
use Rattle.stream_program.specs.declared.fault.RunFault.{RunFault}
use Rattle.stream_program.specs.declared.fault.RunFault.TheVariants.{Line, Store, Memory, Transport}
use Rattle.stream_program.specs.declared.progress.Progress.{Progress}
use Rattle.stream_program.specs.declared.progress.Progress.TheVariants.{Onward, Waiting, Closed}
use Rattle.stream_program.specs.Stream.{Ending, closed, Run, ends, behind, is_final, answer_at}

-- of what is due there remains this if a fault is met; nothing is known of it if memory ran out
abbrev pub IsLeftBy : RunFault → Run → Type 0
IsLeftBy (Line number) rest = ⊥
IsLeftBy (Store number) rest = ⊥
IsLeftBy Memory rest = Unit {0}
IsLeftBy (Transport number) rest = (ending : Ending) × (rest ≡ ends ending) × (answer_at ending ≡ Err (Transport number)) × IsTrue (is_final ending)

-- all that follows is due, or the transport is closed and nothing is
abbrev pub GoesOn : Progress → Run → Run → Type 0
GoesOn Onward onward rest = rest ≡ onward
GoesOn Waiting onward rest = ⊥
GoesOn Closed onward rest = rest ≡ ends closed

-- these octets were put after the others, and of what is due there remains the rest
pub record Puts (result : Result Progress RunFault) (due onward : Run) (old new : List ℕ) : Type 0 where
  pub put : List ℕ
  pub are_put : new ≡ old ++ put
  pub rest : Run
  pub is_due : due ≡ behind put rest
  pub is_left : MatchResult result (λ progress. GoesOn progress onward rest) (λ fault. IsLeftBy fault rest)

-- octets were put and the rest remains due, but nothing is put if more has to be read first
abbrev pub Answers : Result Progress RunFault → Run → Run → List ℕ → List ℕ → Type 0
Answers (Ok Waiting) due onward old new = (new ≡ old) × (due ≡ onward)
Answers result due onward old new = Puts result due onward old new

-- all replies were written, or the writer failed and they wait still
abbrev pub Flushes : Result (Unit {0}) RunFault → WaitingFrames → WaitingFrames → Option (List ℕ) → Option (List ℕ) → Type 0
Flushes (Ok x) old new written now = (new ≡ record { limit = old.limit; octets = [] }) × Appends written now old.octets
Flushes (Err fault) old new written now = (fault ≡ Transport 84) × (new ≡ old)
