-- What was put after the waiting replies, step by step.
use Rattle.std.proofs.Common.{◌≡◌, ℕ, ◌<◌, List, [], ◌++◌, length, Result, Ok, Err, refl, sym, ◌∙◌, ap, arith, append_assoc, append-nil}
use Rattle.std.proofs.lemmas.Bool.Decides.{nat_tests}
use Rattle.wamp_rawsocket.specs.declared.frame.FrameKind.{FrameKind}
use Rattle.wamp_rawsocket.specs.Frame.{outbound_limit}
use Rattle.stream_program.specs.declared.fault.RunFault.{RunFault}
use Rattle.stream_program.specs.declared.fault.RunFault.TheVariants.{Memory, Transport}
use Rattle.stream_program.specs.declared.progress.Progress.{Progress}
use Rattle.stream_program.specs.declared.progress.Progress.TheVariants.{Onward, Waiting, Closed}
use Rattle.stream_program.specs.Stream.{Run, ends, behind, too_wide, framed}
use Rattle.stream_program.specs.Replies.{Puts, Answers}

-- nothing is put if a frame is wider than the client takes
pub framed_wide : (limit : ℕ) (kind : FrameKind) (payload : List ℕ) (after : Run) (old new : List ℕ) → outbound_limit limit < length payload
    → new ≡ old → Puts (Err (Transport 87)) (framed limit kind payload after) after old new
framed_wide limit kind payload after old new wide e = record {
  put = [];
  are_put = e ∙ sym (append-nil old);
  rest = ends too_wide;
  is_due = grind (arith, nat_tests);
  is_left = (too_wide, refl, refl, refl);
}

-- nothing was put, and memory ran out
pub put_nothing : (due after : Run) (old new : List ℕ) → new ≡ old → Puts (Err Memory) due after old new
put_nothing due after old new e = record {
  put = [];
  are_put = e ∙ sym (append-nil old);
  rest = due;
  is_due = refl;
  is_left = tt;
}

-- what is put after some is put after all
pub behind-append : (front put : List ℕ) (run : Run) → behind front (behind put run) ≡ behind (front ++ put) run
behind-append front put run = rw append_assoc refl

-- one thing was put, and then another
pub puts_then : (result : Result Progress RunFault) (due mid onward : Run) (old between new : List ℕ) → Puts (Ok Onward) due mid old between
    → Puts result mid onward between new → Puts result due onward old new
puts_then result due mid onward old between new p q = record {
  put = p.put ++ q.put;
  are_put = q.are_put ∙ ap (λ o. o ++ q.put) p.are_put ∙ append_assoc old p.put q.put;
  rest = q.rest;
  is_due = p.is_due ∙ ap (behind p.put) (p.is_left ∙ q.is_due) ∙ behind-append p.put q.put q.rest;
  is_left = q.is_left;
}

-- once it stops, what would follow does not matter
pub puts_fault : (fault : RunFault) (due onward other : Run) (old new : List ℕ) → Puts (Err fault) due onward old new
    → Puts (Err fault) due other old new
puts_fault fault due onward other old new p = record { put = p.put; are_put = p.are_put; rest = p.rest; is_due = p.is_due; is_left = p.is_left }

pub puts_closed : (due onward other : Run) (old new : List ℕ) → Puts (Ok Closed) due onward old new → Puts (Ok Closed) due other old new
puts_closed due onward other old new p = record { put = p.put; are_put = p.are_put; rest = p.rest; is_due = p.is_due; is_left = p.is_left }

-- nothing was put, and all is due
pub puts_none : (due onward : Run) (old : List ℕ) → due ≡ onward → Puts (Ok Onward) due onward old old
puts_none due onward old e = record { put = []; are_put = sym (append-nil old); rest = due; is_due = refl; is_left = e }

-- the transport stays open if it was not closed
pub puts_open : (progress : Progress) (due onward : Run) (old new : List ℕ) → (progress ≡ Closed → ⊥)
    → Puts (Ok progress) due onward old new → Puts (Ok Onward) due onward old new
puts_open Onward due onward old new stays p = p
puts_open Waiting due onward old new stays p = absurd p.is_left
puts_open Closed due onward old new stays p = absurd (stays refl)

-- if something was put, nothing waits
pub puts_never_waits : (result : Result Progress RunFault) (due onward : Run) (old new : List ℕ) → Puts result due onward old new
    → result ≡ Ok Waiting → ⊥
puts_never_waits (Ok Onward) due onward old new p e = cc
puts_never_waits (Ok Waiting) due onward old new p e = p.is_left
puts_never_waits (Ok Closed) due onward old new p e = cc
puts_never_waits (Err fault) due onward old new p e = cc

pub answers_puts : (result : Result Progress RunFault) (due onward : Run) (old new : List ℕ) → Puts result due onward old new
    → Answers result due onward old new
answers_puts (Ok Onward) due onward old new p = p
answers_puts (Ok Waiting) due onward old new p = absurd p.is_left
answers_puts (Ok Closed) due onward old new p = p
answers_puts (Err fault) due onward old new p = p

-- what is due, and what follows, may be put in other words
pub puts_same : (result : Result Progress RunFault) (due due' onward onward' : Run) (old new : List ℕ) → due' ≡ due → onward ≡ onward'
    → Puts result due onward old new → Puts result due' onward' old new
puts_same result due due' onward onward' old new d o p = rw (d, ← o) p

-- what was put, said of the replies as a whole
pub put_whole : (result : Result Progress RunFault) (due onward : Run) (old new : List ℕ) (p : Puts result due onward old new)
    → behind old due ≡ behind new p.rest
put_whole result due onward old new p =
    ap (behind old) p.is_due ∙ behind-append old p.put p.rest ∙ ap (λ (d : List ℕ). behind d p.rest) (sym p.are_put)
