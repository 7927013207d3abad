-- A whole run: the handshake, the first act, and turns.
use Rattle.std.proofs.Common.{◌≡◌, inl, inr, ℕ, ◌<◌, ◌≤◌, true, arith, List, [], ◌∷◌, ◌++◌, length, Option, Result, Ok, Err, refl, sym, ◌∙◌}
use Rattle.std.proofs.Common.{ap, subst, append-nil}
use Rattle.std.specs.Io.KnownBytes.{Appends, Consumes, IsAtEnd}
use Rattle.std.proofs.KnownBytes.{Appends-nil}
use Rattle.wamp_rawsocket.specs.declared.handshake_answer.Answer.{Answer}
use Rattle.wamp_rawsocket.specs.declared.handshake_answer.Answer.TheVariants.{Terms, Refuse, Hang}
use Rattle.wamp_rawsocket.specs.Handshake.{answer_of}
use Rattle.wamp_rawsocket.specs.Splitter.{frames_of}
use Rattle.wamp_rawsocket.proofs.Streams.{frames_at_end}
use Rattle.realm_acts.specs.declared.act.Act.TheVariants.{Connect}
use Rattle.realm_machine.specs.Content.{Content, empty}
use Rattle.realm_machine.specs.Step.{next}
use Rattle.stream_program.specs.declared.fault.RunFault.{RunFault}
use Rattle.stream_program.specs.declared.fault.RunFault.TheVariants.{Transport}
use Rattle.stream_program.specs.declared.progress.Progress.{Progress}
use Rattle.stream_program.specs.declared.progress.Progress.TheVariants.{Onward, Waiting, Closed}
use Rattle.stream_program.specs.declared.service.Service.{Service}
use Rattle.stream_program.specs.Stream.{unheard, unwelcome, silent, Run, ends, behind, client, config_of, answered, opened, greeted}
use Rattle.stream_program.specs.Stream.{run_of, most_turns, Ends}
use Rattle.client_listener.specs.declared.fault.ListenFault.{ListenFault}
use Rattle.client_listener.specs.declared.fault.ListenFault.TheVariants as listen
use Rattle.client_listener.specs.Handshake.{ReadsFew, ReadsHandshake, Answers, refuses, hangs}
use Rattle.stream_program.specs.Fault.{run_fault_of}
use Rattle.stream_program.specs.Service.{due_at, owed, IsFirst}
use Rattle.stream_program.specs.Turns.{Writes, IsOver, PerformsOut, IsIdle, Goes}
use Rattle.stream_program.proofs.Answering.{hung_unheard}
use Rattle.stream_program.proofs.Running.{ended_whole, stops_open, writes_nothing, writes_then, over_then, ends_then}

-- ---- the first act

-- what is due once the transport is connected
abbrev connected : List ℕ → ℕ → List ℕ → Run
connected name limit more =
    answered (config_of name) limit (next (config_of name) (empty (config_of name).limits) client Connect) 1 (frames_of more)

first_due : (name : List ℕ) (limit : ℕ) (s : Service) (more : List ℕ) → IsFirst name limit s
    → opened (config_of name) limit more ≡ behind s.replies.octets (due_at s Connect (connected name limit more))
first_due name limit s more f = rw f.no_replies refl

pub opens_over : (name : List ℕ) (limit : ℕ) (s v : Service) (fault : RunFault) (old new : Option (List ℕ)) → IsFirst name limit s
    → PerformsOut (Err fault) s Connect v old new → IsOver (opened (config_of name) limit) (Err fault) old new
opens_over name limit s v fault old new f p =
    over_then (opened (config_of name) limit) _ (Err fault) old old new (writes_nothing _ _ old (λ more. first_due name limit s more f))
    (p.tells (connected name limit))

pub opens_closed : (name : List ℕ) (limit : ℕ) (s v : Service) (old new : Option (List ℕ)) → IsFirst name limit s
    → PerformsOut (Ok Closed) s Connect v old new → IsOver (opened (config_of name) limit) (Ok tt) old new
opens_closed name limit s v old new f p =
    over_then (opened (config_of name) limit) _ (Ok tt) old old new (writes_nothing _ _ old (λ more. first_due name limit s more f))
    (p.tells (connected name limit))

open_tells : (name : List ℕ) (limit : ℕ) (s v : Service) (progress : Progress) (old new : Option (List ℕ)) → (progress ≡ Closed → ⊥)
    → PerformsOut (Ok progress) s Connect v old new
    → Writes (λ more. behind s.replies.octets (due_at s Connect (connected name limit more))) (connected name limit) old new
open_tells name limit s v Onward old new stays p = p.tells (connected name limit)
open_tells name limit s v Waiting old new stays p = p.tells (connected name limit)
open_tells name limit s v Closed old new stays p = absurd (stays refl)

connected_owed : (name : List ℕ) (limit : ℕ) (s v : Service) (progress : Progress) (old new : Option (List ℕ)) (more : List ℕ)
    → IsFirst name limit s → PerformsOut (Ok progress) s Connect v old new
    → connected name limit more ≡ owed v more
connected_owed name limit s v progress old new more f p =
    let a = p.has_acted in
    rw (p.none_waits, a.config, a.limit, a.content, a.next_draw, a.held, f.config, f.limits, f.content, f.draw, f.held) refl

connected_idle : (name : List ℕ) (limit : ℕ) → connected name limit [] ≡ ends silent
connected_idle name limit =
    let c : Content = next (config_of name) (empty (config_of name).limits) client Connect in
    ap (answered (config_of name) limit c 1) (frames_at_end [] refl) ∙ hung_unheard (config_of name) c limit (ends silent)

pub opens_writes : (name : List ℕ) (limit : ℕ) (s v : Service) (progress : Progress) (old new : Option (List ℕ)) → IsFirst name limit s
    → (progress ≡ Closed → ⊥) → PerformsOut (Ok progress) s Connect v old new
    → Writes (opened (config_of name) limit) (owed v) old new
opens_writes name limit s v progress old new f stays p =
    writes_then _ _ _ old old new (writes_nothing _ _ old (λ more. first_due name limit s more f))
    (writes_then _ _ _ old new new (open_tells name limit s v progress old new stays p)
    (writes_nothing _ _ new (λ more. connected_owed name limit s v progress old new more f p)))

pub opens_idle : (name : List ℕ) (limit : ℕ) (s v : Service) (progress : Progress) (old new : Option (List ℕ)) → IsFirst name limit s
    → PerformsOut (Ok progress) s Connect v old new → IsIdle v
opens_idle name limit s v progress old new f p = sym (connected_owed name limit s v progress old new [] f p) ∙ connected_idle name limit

-- ---- the last turn

pub turns_spent : (owing : List ℕ → Run) (s : Service) (count : ℕ) (input left old new : Option (List ℕ))
    → Goes owing (owed s) count input left old new → IsIdle s → most_turns ≤ count → Ends owing (Err (Transport 85)) input left old new
turns_spent owing s count input left old new g idle spent = (
  g.read,
  g.are_read,
  (
    stops_open silent (owing g.read) g.written old new (ap owing (sym (append-nil g.read)) ∙ g.is_due [] ∙ ap (behind g.written) idle) refl
        g.is_written,
    let enough : count ≤ length g.read = g.enough in omega arith,
  ),
)

-- ---- the handshake

-- four octets are answered, and then comes what follows them
pub run_greeted : (name octets more : List ℕ) → length octets ≡ 4
    → run_of name (octets ++ more) ≡ greeted (config_of name) (answer_of octets true) more
run_greeted name (first ∷ second ∷ third ∷ fourth ∷ []) more e = refl
run_greeted name (first ∷ second ∷ third ∷ fourth ∷ fifth ∷ octets) more e = absurd (omega (arith, e))
run_greeted name (first ∷ second ∷ third ∷ []) more e = absurd (omega (arith, e))
run_greeted name (first ∷ second ∷ []) more e = absurd (omega (arith, e))
run_greeted name (first ∷ []) more e = absurd (omega (arith, e))
run_greeted name [] more e = absurd (omega (arith, e))

run_unheard : (name octets : List ℕ) → length octets < 4 → run_of name octets ≡ ends unheard
run_unheard name (first ∷ second ∷ third ∷ fourth ∷ octets) less = absurd (omega (arith, less))
run_unheard name (first ∷ second ∷ third ∷ []) less = refl
run_unheard name (first ∷ second ∷ []) less = refl
run_unheard name (first ∷ []) less = refl
run_unheard name [] less = refl

pub cut_short : (name : List ℕ) (input left old : Option (List ℕ)) → ReadsFew input left → IsAtEnd left
    → Ends (run_of name) (Err (Transport 81)) input left old old
cut_short name input left old few end = (
  few.0,
  few.2,
  ended_whole unheard (run_of name few.0) [] (length few.0) left old old (run_unheard name few.0 few.1) (Appends-nil old)
      (inl end),
)

pub unread : (name : List ℕ) (input left old : Option (List ℕ)) → ReadsFew input left → Ends (run_of name) (Err (Transport 83)) input left old old
unread name input left old few =
    (few.0, few.2, stops_open unheard (run_of name few.0) [] old old (run_unheard name few.0 few.1) refl (Appends-nil old))

pub served : (name octets answer : List ℕ) (limit : ℕ) (result : Result (Unit {0}) RunFault) (input mid left old now new : Option (List ℕ))
    → length octets ≡ 4 → Terms limit answer ≡ answer_of octets true → Consumes input mid octets → Appends old now answer
    → Ends (opened (config_of name) limit) result mid left now new → Ends (run_of name) result input left old new
served name octets answer limit result input mid left old now new four e c a p =
    ends_then (run_of name) (opened (config_of name) limit) 0 result input mid left old now new
    (record {
      read = octets;
      are_read = c;
      enough = omega arith;
      written = answer;
      is_written = a;
      is_due = λ more. run_greeted name octets
          more four ∙ ap (λ (h : Answer). greeted (config_of name) h more) (sym e);
    }) p

-- the run over four octets alone
run_of_four : (name octets : List ℕ) (answer : Answer) → length octets ≡ 4 → answer ≡ answer_of octets true
    → run_of name octets ≡ greeted (config_of name) answer []
run_of_four name octets answer four e =
    ap (run_of name) (sym (append-nil octets)) ∙ run_greeted name octets [] four ∙
    ap (λ (h : Answer). greeted (config_of name) h []) (sym e)

pub refused : (name octets answer : List ℕ) (input left old new : Option (List ℕ)) → length octets ≡ 4
    → Refuse answer ≡ answer_of octets true → Consumes input left octets → Appends old new answer
    → Ends (run_of name) (Err (Transport 81)) input left old new
refused name octets answer input left old new four e c a = (
  octets,
  c,
  ended_whole unwelcome (run_of name octets) answer (length octets) left old new
      (run_of_four name octets (Refuse answer) four e ∙ ap (λ (o : List ℕ). record { octets = o; ending = unwelcome })
      (sym (append-nil answer))) a (inr refl),
)

pub hung_at : (name octets : List ℕ) (input left old : Option (List ℕ)) → length octets ≡ 4 → Hang ≡ answer_of octets true
    → Consumes input left octets → Ends (run_of name) (Err (Transport 81)) input left old old
hung_at name octets input left old four e c = (
  octets,
  c,
  ended_whole unwelcome (run_of name octets) [] (length octets) left old old (run_of_four name octets Hang four e)
      (Appends-nil old) (inr refl),
)

-- what the listener returns of a handshake, said of the run
pub unheard_ends : (name : List ℕ) (fault : ListenFault) (input left old : Option (List ℕ)) → ReadsHandshake (Err fault) input left
    → Ends (run_of name) (Err (run_fault_of fault)) input left old old
unheard_ends name listen.Handshake input left old p = cut_short name input left old p.0 p.1
unheard_ends name listen.Read input left old p = unread name input left old p
unheard_ends name listen.Frame input left old p = absurd p
unheard_ends name listen.Write input left old p = absurd p
unheard_ends name listen.Turns input left old p = absurd p
unheard_ends name listen.Memory input left old p = absurd p
unheard_ends name listen.Wide input left old p = absurd p

module _ {W : Type 0} (contents : W → Option (List ℕ)) (name octets : List ℕ) (was now : W) (input left : Option (List ℕ)) where
  pub turned_away : (fault : ListenFault) → length octets ≡ 4 → Consumes input left octets
      → Answers contents (answer_of octets true) was now (Err fault)
      → Ends (run_of name) (Err (run_fault_of fault)) input left (contents was) (contents now)
  turned_away listen.Handshake four c (refuses told e w) =
      refused name octets told input left (contents was) (contents now) four (sym e) c w
  turned_away listen.Handshake four c (hangs e same) =
      subst (λ (w : W). Ends (run_of name) (Err (Transport 81)) input left (contents was) (contents w)) (sym same)
      (hung_at name octets input left (contents was) four (sym e) c)
  turned_away listen.Write four c p = (octets, c, tt)
  turned_away listen.Frame four c p = absurd p
  turned_away listen.Read four c p = absurd p
  turned_away listen.Turns four c p = absurd p
  turned_away listen.Memory four c p = absurd p
  turned_away listen.Wide four c p = absurd p

  pub taken_on : (limit : ℕ) (result : Result (Unit {0}) RunFault) (end new : Option (List ℕ)) → length octets ≡ 4
      → Consumes input left octets → Answers contents (answer_of octets true) was now (Ok limit)
      → Ends (opened (config_of name) limit) result left end (contents now) new → Ends (run_of name) result input end (contents was) new
  taken_on limit result end new four c p served_on =
      served name octets p.0 limit result input left end (contents was) (contents now) new four (sym p.1) c p.2 served_on
