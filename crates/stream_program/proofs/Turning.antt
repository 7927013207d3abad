-- One turn of a run, by what the reader gave.
use Rattle.std.proofs.Common.{◌≡◌, inl, inr, ℕ, ◌≤◌, Bool, true, false, arith, List, [], ◌∷◌, ◌++◌, length, Option, None, Some, option_map}
use Rattle.std.proofs.Common.{Result, Ok, Err, refl, sym, ◌∙◌, ap, append_assoc, append-nil}
use Rattle.std.specs.Io.KnownBytes.{Appends, Consumes, Keeps, IsAtEnd}
use Rattle.std.proofs.KnownBytes.{Appends-nil}
use Rattle.wamp_rawsocket.specs.Splitter.{frames_of}
use Rattle.realm_machine.specs.Config.{Config}
use Rattle.realm_acts.specs.declared.act.Act.TheVariants.{Hung}
use Rattle.realm_machine.specs.Content.{Content}
use Rattle.stream_program.specs.declared.fault.RunFault.{RunFault}
use Rattle.stream_program.specs.declared.fault.RunFault.TheVariants.{Memory, Transport}
use Rattle.stream_program.specs.declared.progress.Progress.{Progress}
use Rattle.stream_program.specs.declared.progress.Progress.TheVariants.{Onward, Waiting, Closed}
use Rattle.stream_program.specs.declared.service.Service.{Service}
use Rattle.stream_program.specs.Stream.{silent, closed, Run, ends, behind, answered, Ends}
use Rattle.stream_program.specs.Replies.{Answers}
use Rattle.stream_program.specs.Service.{content_of, due_of, due, due_at, owed}
use Rattle.stream_program.specs.Turns.{Writes, IsOver, PerformsOut, IsIdle, Steps, AnswersAll, Turns}
use Rattle.stream_program.proofs.Putting.{put_whole}
use Rattle.stream_program.proofs.Answering.{hung_unheard}
use Rattle.stream_program.proofs.Running.{ended_same, ended_behind, ended_whole, ended_by, stops_open, breaks_at}

-- ---- a frame

-- a frame was answered, and the replies were written: the service is the same but for its replies
pub steps_written : (s t v : Service) (outcome : Result Progress RunFault) (old new : Option (List ℕ))
    → ((more : List ℕ) → Answers outcome (due s more) (due t more) s.replies.octets t.replies.octets)
    → (outcome ≡ Ok Waiting → due t [] ≡ ends silent)
    → v.replies.octets ≡ [] → ((more : List ℕ) → due t more ≡ due v more) → Appends old new t.replies.octets → Steps outcome s v old new
steps_written s t v (Ok Onward) old new answers waits none same a = record {
  written = t.replies.octets;
  is_written = a;
  is_due = λ more. put_whole (Ok Onward) _ _ _ _ (answers more) ∙
      ap (behind t.replies.octets) ((answers more).is_left ∙ same more ∙ ap (λ (r : List ℕ). behind r (due v more)) (sym none));
}
steps_written s t v (Ok Waiting) old new answers waits none same a = (
  record {
    written = t.replies.octets;
    is_written = a;
    is_due = λ more. ap (λ (r : List ℕ). behind r (due s more)) (sym (answers []).0) ∙
        ap (behind t.replies.octets) ((answers more).1 ∙ same more ∙ ap (λ (r : List ℕ). behind r (due v more)) (sym none));
  },
  ap (λ (r : List ℕ). behind r (due v [])) none ∙ sym (same []) ∙ waits refl,
)
steps_written s t v (Ok Closed) old new answers waits none same a =
    λ left. ended_whole closed (owed s []) t.replies.octets 0 left old new
    (put_whole (Ok Closed) _ _ _ _ (answers []) ∙ ap (behind t.replies.octets) (answers []).is_left) a (inr refl)
steps_written s t v (Err fault) old new answers waits none same a =
    λ left. ended_by fault (owed s []) (answers []).rest t.replies.octets 0 left old new (put_whole (Err fault) _ _ _ _ (answers [])) a
    (answers []).is_left

-- the replies wait still
pub steps_onward : (s t : Service) (old : Option (List ℕ))
    → ((more : List ℕ) → Answers (Ok Onward) (due s more) (due t more) s.replies.octets t.replies.octets) → Steps (Ok Onward) s t old old
steps_onward s t old answers = record {
  written = [];
  is_written = Appends-nil old;
  is_due = λ more. put_whole (Ok Onward) _ _ _ _ (answers more) ∙ ap (behind t.replies.octets) (answers more).is_left;
}

-- ---- a turn

-- the run is over, and this was read before
pub over_read : (owing between : List ℕ → Run) (result : Result (Unit {0}) RunFault) (input left old new : Option (List ℕ)) (read : List ℕ)
    → Consumes input left read → owing read ≡ between [] → IsOver between result old new
    → Ends owing result input left old new
over_read owing between result input left old new read c e p = (
  read,
  c,
  ended_same (owing read) (between []) (length read) result left old new e
      (ended_behind [] (between []) 0 (length read) result left old old new (omega arith) (Appends-nil old) (p left)),
)

-- memory ran out
pub read_memory : (owing : List ℕ → Run) (input left old : Option (List ℕ)) (read : List ℕ) → Consumes input left read
    → Ends owing (Err Memory) input left old old
read_memory owing input left old read c = (read, c, breaks_at (owing read) (owing read) [] old old refl (Appends-nil old))

consumes_kept : (input left : Option (List ℕ)) → Keeps input left → Consumes input left []
consumes_kept None left k = tt
consumes_kept (Some input) None k = absurd k
consumes_kept (Some input) (Some left) k = sym k

-- the read failed
pub read_fails : (s : Service) (input left old : Option (List ℕ)) → IsIdle s → Keeps input left
    → Ends (owed s) (Err (Transport 83)) input left old old
read_fails s input left old idle k = ([], consumes_kept input left k, stops_open silent (owed s []) [] old old idle refl (Appends-nil old))

-- what was read was fed
due_fed : (config : Config) (limit : ℕ) (c : Content) (draw : ℕ) (held : Option (List ℕ)) (read more : List ℕ)
    → due_of config limit c draw held (read ++ more) ≡ due_of config limit c draw (option_map (λ octets. octets ++ read) held) more
due_fed config limit c draw None read more = refl
due_fed config limit c draw (Some held) read more =
    ap (λ (o : List ℕ). answered config limit c draw (frames_of o)) (sym (append_assoc held read more))

pub owed_fed : (s : Service) (read more : List ℕ)
    → owed s (read ++ more) ≡ owed (record s { splitter = option_map (λ octets. octets ++ read) s.splitter }) more
owed_fed s read more = ap (behind s.replies.octets) (due_fed s.realm.config s.replies.limit (content_of s) s.draw s.splitter read more)

pub turn_answers : (result : Result Bool RunFault) (s t v : Service) (input left old new : Option (List ℕ)) (read : List ℕ)
    → Consumes input left read → 1 ≤ length read → ((more : List ℕ) → owed s (read ++ more) ≡ owed t more)
    → AnswersAll result t v old new → Turns result s v input left old new
turn_answers (Ok true) s t v input left old new read c some fed p = (
  record {
    read = read;
    are_read = c;
    enough = some;
    written = p.0.written;
    is_written = p.0.is_written;
    is_due = λ more. fed more ∙
        p.0.is_due more;
  },
  p.1,
)
turn_answers (Ok false) s t v input left old new read c some fed p =
    over_read (owed s) (owed t) (Ok tt) input left old new read c (ap (owed s) (sym (append-nil read)) ∙ fed []) p
turn_answers (Err fault) s t v input left old new read c some fed p =
    over_read (owed s) (owed t) (Err fault) input left old new read c (ap (owed s) (sym (append-nil read)) ∙ fed []) p

-- the reader ended, and the transport was hung up
no_octets : (read : List ℕ) → length read ≡ 0 → read ≡ []
no_octets [] e = refl
no_octets (octet ∷ read) e = absurd (omega (arith, e))

front_nil : (front rest : List ℕ) → front ++ rest ≡ [] → front ≡ []
front_nil [] rest e = refl
front_nil (octet ∷ front) rest e = absurd cc

hung_owed : (s : Service) (read : List ℕ) → IsIdle s → length read ≡ 0 → owed s read ≡ behind s.replies.octets (due_at s Hung (ends silent))
hung_owed s read idle none =
    let no_replies : s.replies.octets ≡ [] = front_nil s.replies.octets (due s []).octets (ap (λ (r : Run). r.octets) idle) in
    ap (owed s) (no_octets read none) ∙ idle ∙ ap (λ (r : List ℕ). behind r (ends silent)) (sym no_replies) ∙
    ap (behind s.replies.octets) (sym (hung_unheard s.realm.config (content_of s) s.replies.limit (ends silent)))

hung_whole : (s : Service) (input left old new : Option (List ℕ)) (read : List ℕ) → IsIdle s → Consumes input left read → length read ≡ 0
    → IsAtEnd left
    → Writes (λ more. behind s.replies.octets (due_at s Hung (ends silent))) (λ more. ends silent) old new → Ends (owed s) (Ok tt) input left old new
hung_whole s input left old new read idle c none end w = (
  read,
  c,
  ended_whole silent (owed s read) w.written (length read) left old new (hung_owed s read idle none ∙ w.is_due []) w.is_written (inl end),
)

pub turn_ends : (s v : Service) (progress : Progress) (input left old new : Option (List ℕ)) (read : List ℕ) → IsIdle s
    → Consumes input left read → length read ≡ 0 → IsAtEnd left
    → PerformsOut (Ok progress) s Hung v old new → Ends (owed s) (Ok tt) input left old new
turn_ends s v Onward input left old new read idle c none end p = hung_whole s input left old new read idle c none end (p.tells (λ more. ends silent))
turn_ends s v Waiting input left old new read idle c none end p = hung_whole s input left old new read idle c none end (p.tells (λ more. ends silent))
turn_ends s v Closed input left old new read idle c none end p =
    over_read (owed s) (λ more. behind s.replies.octets (due_at s Hung (ends silent))) (Ok tt) input left old new read c
    (hung_owed s read idle none) (p.tells (λ more. ends silent))

pub turn_ends_by : (s v : Service) (fault : RunFault) (input left old new : Option (List ℕ)) (read : List ℕ) → IsIdle s
    → Consumes input left read → length read ≡ 0
    → PerformsOut (Err fault) s Hung v old new → Ends (owed s) (Err fault) input left old new
turn_ends_by s v fault input left old new read idle c none p =
    over_read (owed s) (λ more. behind s.replies.octets (due_at s Hung (ends silent))) (Err fault) input left old new read c
    (hung_owed s read idle none) (p.tells (λ more. ends silent))
