-- How a run ends, and goes on from step to step.
use Rattle.std.proofs.Common.{◌≡◌, ◌⊎◌, inr, ℕ, ◌+◌, ◌≤◌, ◌==◌, Bool, true, false, MatchBool, IsTrue, OnOk, List, [], ◌++◌, length, Option}
use Rattle.std.proofs.Common.{Result, Ok, Err, refl, sym, ◌∙◌, ap, subst, arith, append_assoc, length-append}
use Rattle.std.specs.Io.KnownBytes.{Appends, IsAtEnd}
use Rattle.std.proofs.KnownBytes.{Appends-nil, Appends-trans, Consumes-nil, Consumes-trans}
use Rattle.realm_acts.specs.declared.act.Act.{Act}
use Rattle.client_listener.specs.Waiting.{WaitingFrames}
use Rattle.stream_program.specs.declared.fault.RunFault.{RunFault}
use Rattle.stream_program.specs.declared.fault.RunFault.TheVariants.{Line, Store, Memory, Transport}
use Rattle.stream_program.specs.declared.progress.Progress.{Progress}
use Rattle.stream_program.specs.declared.progress.Progress.TheVariants.{Onward, Waiting, Closed}
use Rattle.stream_program.specs.Stream.{Ending, unheard, unwelcome, silent, closed, broken_off, too_wide, Run, ends, behind, is_final}
use Rattle.stream_program.specs.Stream.{answer_at, most_turns, Serves, Stops, Breaks, Ended, Ends}
use Rattle.stream_program.specs.declared.service.Service.{Service}
use Rattle.stream_program.specs.Replies.{IsLeftBy, Puts}
use Rattle.stream_program.specs.Service.{due_at, HasActed, Performs}
use Rattle.stream_program.specs.Turns.{Writes, IsOver, Tells, PerformsOut, Goes}
use Rattle.stream_program.proofs.Putting.{behind-append, put_whole}

-- ---- the same run, in other words or after what was written

pub ended_same : (due due' : Run) (count : ℕ) (result : Result (Unit {0}) RunFault) (left old new : Option (List ℕ)) → due ≡ due'
    → Ended due' count result left old new → Ended due count result left old new
ended_same due due' count result left old new e p = let P : Run → Type 0 = λ d. Ended d count result left old new in subst P (sym e) p

serves_behind : (written : List ℕ) (due : Run) (result : Result (Unit {0}) RunFault) (left old mid new : Option (List ℕ))
    → Appends old mid written → Serves due result left mid new → Serves (behind written due) result left old new
serves_behind written due result left old mid new a p = record {
  is_written = Appends-trans old mid new written due.octets a p.is_written;
  answer = p.answer;
  whole = p.whole;
}

stops_behind : (written : List ℕ) (due : Run) (old mid new : Option (List ℕ)) → Appends old mid written → Stops due mid new
    → Stops (behind written due) old new
stops_behind written due old mid new a p = record { is_written = Appends-trans old mid new written due.octets a p.is_written; is_open = p.is_open }

breaks_behind : (written : List ℕ) (due : Run) (old mid new : Option (List ℕ)) → Appends old mid written → Breaks due mid new
    → Breaks (behind written due) old new
breaks_behind written due old mid new a p = record {
  front = written ++ p.front;
  rest = p.rest;
  is_front = ap (λ (o : List ℕ). written ++ o) p.is_front ∙ sym (append_assoc written p.front p.rest);
  is_written = Appends-trans old mid new written p.front a p.is_written;
}

-- what follows from each case follows from the one that holds
by_number : (failed unwritten spent : Bool) (P P' Q Q' S S' : Type 0) → (P → P') → (Q → Q') → (S → S')
    → MatchBool failed P (MatchBool unwritten (Unit {0}) (MatchBool spent Q S))
    → MatchBool failed P' (MatchBool unwritten (Unit {0}) (MatchBool spent Q' S'))
by_number true unwritten spent P P' Q Q' S S' f g h p = f p
by_number false true spent P P' Q Q' S S' f g h p = tt
by_number false false true P P' Q Q' S S' f g h p = g p
by_number false false false P P' Q Q' S S' f g h p = h p

pub ended_behind : (written : List ℕ) (due : Run) (count most : ℕ) (result : Result (Unit {0}) RunFault)
    (left old mid new : Option (List ℕ)) → count ≤ most → Appends old mid written → Ended due count result left mid new
    → Ended (behind written due) most result left old new
ended_behind written due count most (Ok x) left old mid new le a p = serves_behind written due (Ok x) left old mid new a p
ended_behind written due count most (Err (Line number)) left old mid new le a p = absurd p
ended_behind written due count most (Err (Store number)) left old mid new le a p = absurd p
ended_behind written due count most (Err Memory) left old mid new le a p = breaks_behind written due old mid new a p
ended_behind written due count most (Err (Transport number)) left old mid new le a p =
    by_number (number == 83) (number == 84) (number == 85) (Stops due mid new) (Stops (behind written due) old new)
    (Stops due mid new × (most_turns ≤ count)) (Stops (behind written due) old new × (most_turns ≤ most))
    (Serves due (Err (Transport number)) left mid new) (Serves (behind written due) (Err (Transport number)) left old new)
    (stops_behind written due old mid new a)
    (λ q. (stops_behind written due old mid new a q.0, let enough : most_turns ≤ count = q.1 in omega arith))
    (serves_behind written due (Err (Transport number)) left old mid new a)
    p

-- ---- endings

-- a run that ended with this ending ended with its answer
ended_with : (ending : Ending) (due : Run) (count : ℕ) (left old new : Option (List ℕ)) → Serves due (answer_at ending) left old new
    → Ended due count (answer_at ending) left old new
ended_with unheard due count left old new p = p
ended_with unwelcome due count left old new p = p
ended_with silent due count left old new p = p
ended_with closed due count left old new p = p
ended_with broken_off due count left old new p = p
ended_with too_wide due count left old new p = p

-- all was written that was due
pub ended_whole : (ending : Ending) (due : Run) (written : List ℕ) (count : ℕ) (left old new : Option (List ℕ))
    → due ≡ behind written (ends ending) → Appends old new written → IsAtEnd left ⊎ IsTrue (is_final ending)
    → Ended due count (answer_at ending) left old new
ended_whole ending due written count left old new e a whole =
    ended_same due (behind written (ends ending)) count (answer_at ending) left old new e
    (ended_with ending (behind written (ends ending)) count left old new
    (record { is_written = Appends-trans old new new written [] a (Appends-nil new); answer = refl; whole = whole }))

-- all was written that was due, and more would have been read
pub stops_open : (ending : Ending) (due : Run) (written : List ℕ) (old new : Option (List ℕ)) → due ≡ behind written (ends ending)
    → is_final ending ≡ false → Appends old new written → Stops due old new
stops_open ending due written old new e o a =
    let P : Run → Type 0 = λ d. Stops d old new in
    subst P (sym e) (record { is_written = Appends-trans old new new written [] a (Appends-nil new); is_open = o })

pub breaks_at : (due rest : Run) (written : List ℕ) (old new : Option (List ℕ)) → due ≡ behind written rest → Appends old new written
    → Breaks due old new
breaks_at due rest written old new e a = record { front = written; rest = rest.octets; is_front = ap (λ (r : Run). r.octets) e; is_written = a }

-- a fault was met, and all was written that was due before
pub ended_by : (fault : RunFault) (due rest : Run) (written : List ℕ) (count : ℕ) (left old new : Option (List ℕ))
    → due ≡ behind written rest → Appends old new written → IsLeftBy fault rest → Ended due count (Err fault) left old new
ended_by (Line number) due rest written count left old new e a p = absurd p
ended_by (Store number) due rest written count left old new e a p = absurd p
ended_by Memory due rest written count left old new e a p = breaks_at due rest written old new e a
ended_by (Transport number) due rest written count left old new e a p =
    let P : Result (Unit {0}) RunFault → Type 0 = λ result. Ended due count result left old new in
    subst P p.2 (ended_whole p.0 due written count left old new (e ∙ ap (behind written) p.1) a (inr p.3))

-- ---- over the writer

pub writes_nothing : (owing onward : List ℕ → Run) (old : Option (List ℕ)) → ((more : List ℕ) → owing more ≡ onward more)
    → Writes owing onward old old
writes_nothing owing onward old e = record { written = []; is_written = Appends-nil old; is_due = e }

pub writes_then : (owing between onward : List ℕ → Run) (old mid new : Option (List ℕ)) → Writes owing between old mid
    → Writes between onward mid new → Writes owing onward old new
writes_then owing between onward old mid new p q = record {
  written = p.written ++ q.written;
  is_written = Appends-trans old mid new p.written q.written p.is_written q.is_written;
  is_due = λ more. p.is_due more ∙ ap (behind p.written) (q.is_due more) ∙ behind-append p.written q.written (onward more);
}

pub over_then : (owing between : List ℕ → Run) (result : Result (Unit {0}) RunFault) (old mid new : Option (List ℕ))
    → Writes owing between old mid → IsOver between result mid new → IsOver owing result old new
over_then owing between result old mid new p q left =
    ended_same (owing []) (behind p.written (between [])) 0 result left old new (p.is_due [])
    (ended_behind p.written (between []) 0 0 result left old mid new (omega arith) p.is_written (q left))

-- what was put after the replies was written with them
pub tells_put : (result : Result Progress RunFault) (owing onward : List ℕ → Run) (replies put : List ℕ) (old new : Option (List ℕ))
    → ((more : List ℕ) → Puts result (owing more) (onward more) replies put) → Appends old new put
    → Tells result (λ more. behind replies (owing more)) onward old new
tells_put (Ok Onward) owing onward replies put old new p a = record {
  written = put;
  is_written = a;
  is_due = λ more. put_whole (Ok Onward) (owing more) (onward more) replies put (p more) ∙ ap (behind put) (p more).is_left;
}
tells_put (Ok Waiting) owing onward replies put old new p a = absurd (p []).is_left
tells_put (Ok Closed) owing onward replies put old new p a =
    λ left. ended_whole closed (behind replies (owing [])) put 0 left old new
    (put_whole (Ok Closed) (owing []) (onward []) replies put (p []) ∙ ap (behind put) (p []).is_left) a (inr refl)
tells_put (Err fault) owing onward replies put old new p a =
    λ left. ended_by fault (behind replies (owing [])) (p []).rest put 0 left old new
    (put_whole (Err fault) (owing []) (onward []) replies put (p [])) a (p []).is_left

-- an act was done, and the replies were written
acted_flushed : (s t : Service) (act : Act) (draw : ℕ) (flushed : WaitingFrames) → HasActed s act draw t → flushed.limit ≡ t.replies.limit
    → HasActed s act draw (record t { replies = flushed })
acted_flushed s t act draw flushed p same =
    record { config = p.config; content = p.content; next_draw = p.next_draw; held = p.held; limit = same ∙ p.limit }

flushed_ok : (result : Result Progress RunFault) (s t : Service) (act : Act) (flushed : WaitingFrames)
    → OnOk result (HasActed s act s.draw t) → flushed ≡ record { limit = t.replies.limit; octets = [] }
    → OnOk result (flushed.octets ≡ []) × OnOk result (HasActed s act s.draw (record t { replies = flushed }))
flushed_ok (Ok progress) s t act flushed p e =
    (ap (λ (w : WaitingFrames). w.octets) e, acted_flushed s t act s.draw flushed p (ap (λ (w : WaitingFrames). w.limit) e))
flushed_ok (Err fault) s t act flushed p e = (tt, tt)

pub performs_flushed : (result : Result Progress RunFault) (s t : Service) (act : Act) (flushed : WaitingFrames)
    (old new : Option (List ℕ)) → Performs result s act s.draw t → flushed ≡ record { limit = t.replies.limit; octets = [] }
    → Appends old new t.replies.octets → PerformsOut result s act (record t { replies = flushed }) old new
performs_flushed result s t act flushed old new p e a =
    let after = flushed_ok result s t act flushed p.has_acted e in
    record {
      tells = λ onward. tells_put result (λ more. due_at s act (onward more)) onward s.replies.octets t.replies.octets old new
          (λ more. p.puts (onward more)) a;
      none_waits = after.0;
      has_acted = after.1;
    }

-- ---- over the reader, too

pub goes_nowhere : (owing onward : List ℕ → Run) (input old : Option (List ℕ)) → ((more : List ℕ) → owing more ≡ onward more)
    → Goes owing onward 0 input input old old
goes_nowhere owing onward input old e =
    record { read = []; are_read = Consumes-nil input; enough = omega arith; written = []; is_written = Appends-nil old; is_due = e }

pub goes_writing : (owing onward : List ℕ → Run) (input old new : Option (List ℕ)) → Writes owing onward old new
    → Goes owing onward 0 input input old new
goes_writing owing onward input old new p =
    record {
      read = [];
      are_read = Consumes-nil input;
      enough = omega arith;
      written = p.written;
      is_written = p.is_written;
      is_due =
          p.is_due;
    }

pub goes_then : (owing between onward : List ℕ → Run) (first second : ℕ) (input mid left old now new : Option (List ℕ))
    → Goes owing between first input mid old now → Goes between onward second mid left now new
    → Goes owing onward (first + second) input left old new
goes_then owing between onward first second input mid left old now new p q = record {
  read = p.read ++ q.read;
  are_read = Consumes-trans input mid left p.read q.read p.are_read q.are_read;
  enough =
      let a : first ≤ length p.read = p.enough in
      let b : second ≤ length q.read = q.enough in
      rw length-append (omega arith);
  written = p.written ++ q.written;
  is_written = Appends-trans old now new p.written q.written p.is_written q.is_written;
  is_due = λ more. ap owing (append_assoc p.read q.read more) ∙ p.is_due (q.read ++ more) ∙ ap (behind p.written) (q.is_due more) ∙
      behind-append p.written q.written (onward more);
}

pub ends_then : (owing onward : List ℕ → Run) (least : ℕ) (result : Result (Unit {0}) RunFault)
    (input mid left old now new : Option (List ℕ)) → Goes owing onward least input mid old now → Ends onward result mid left now new
    → Ends owing result input left old new
ends_then owing onward least result input mid left old now new p q = (
  p.read ++ q.0,
  Consumes-trans input mid left p.read q.0 p.are_read q.1,
  ended_same (owing (p.read ++ q.0)) (behind p.written (onward q.0)) (length (p.read ++ q.0)) result left old new (p.is_due q.0)
      (ended_behind p.written (onward q.0) (length q.0) (length (p.read ++ q.0)) result left old now new (rw length-append (omega arith))
      p.is_written q.2),
)

-- a run that is over, whatever the reader has left
pub over_ends : (owing : List ℕ → Run) (result : Result (Unit {0}) RunFault) (input old new : Option (List ℕ)) → IsOver owing result old new
    → Ends owing result input input old new
over_ends owing result input old new p = ([], Consumes-nil input, p input)

-- memory ran out
pub ends_memory : (owing : List ℕ → Run) (input old : Option (List ℕ)) → Ends owing (Err Memory) input input old old
ends_memory owing input old = ([], Consumes-nil input, breaks_at (owing []) (owing []) [] old old refl (Appends-nil old))
