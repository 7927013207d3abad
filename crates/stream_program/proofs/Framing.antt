-- What the outbox puts after the replies, in terms of what is due.
use Rattle.std.proofs.Common.{◌≡◌, ℕ, List, Option, Ok, Err, refl, arith}
use Rattle.std.proofs.lemmas.Bool.Decides.{nat_tests}
use Rattle.wamp_rawsocket.specs.declared.frame.FrameKind.{FrameKind}
use Rattle.wamp_rawsocket.specs.Frame.{frame_octets}
use Rattle.client_listener.specs.declared.fault.ListenFault.{ListenFault}
use Rattle.client_listener.specs.declared.fault.ListenFault.TheVariants as listen
use Rattle.client_listener.specs.Outbox.{Frames, Empties}
use Rattle.client_listener.specs.Waiting.{WaitingFrames}
use Rattle.stream_program.specs.declared.progress.Progress.TheVariants.{Onward}
use Rattle.stream_program.specs.Fault.{run_fault_of}
use Rattle.stream_program.specs.Stream.{Run, framed}
use Rattle.stream_program.specs.Replies.{Puts, Flushes}
use Rattle.stream_program.proofs.Putting.{framed_wide, put_nothing}

-- the frame was put
pub frame_put : (limit : ℕ) (kind : FrameKind) (payload old new : List ℕ) → Frames limit kind payload (Ok tt) old new
    → (after : Run) → Puts (Ok Onward) (framed limit kind payload after) after old new
frame_put limit kind payload old new p after = record {
  put = frame_octets kind payload;
  are_put = p.1;
  rest = after;
  is_due = let fits = p.0 in grind (arith, nat_tests);
  is_left = refl;
}

-- it was not
pub frame_refused : (limit : ℕ) (kind : FrameKind) (payload old new : List ℕ) (fault : ListenFault) → Frames limit kind payload (Err fault) old new
    → (after : Run) → Puts (Err (run_fault_of fault)) (framed limit kind payload after) after old new
frame_refused limit kind payload old new listen.Handshake p after = absurd p
frame_refused limit kind payload old new listen.Frame p after = absurd p
frame_refused limit kind payload old new listen.Read p after = absurd p
frame_refused limit kind payload old new listen.Write p after = absurd p
frame_refused limit kind payload old new listen.Turns p after = absurd p
frame_refused limit kind payload old new listen.Memory p after = put_nothing (framed limit kind payload after) after old new p
frame_refused limit kind payload old new listen.Wide p after =
    let wide = p.0 in framed_wide limit kind payload after old new (grind (arith, nat_tests)) p.1

-- all that waited was written
pub flushed : (old new : WaitingFrames) (was now : Option (List ℕ)) → Empties (Ok tt) old.octets new.octets was now → new.limit ≡ old.limit
    → Flushes (Ok tt) old new was now
flushed old new was now p same = (λ i. record { limit = same i; octets = p.0 i }, p.1)

-- the writer failed
pub unflushed : (old new : WaitingFrames) (was now : Option (List ℕ)) (fault : ListenFault) → Empties (Err fault) old.octets new.octets was now
    → new ≡ old → Flushes (Err (run_fault_of fault)) old new was now
unflushed old new was now fault p same = (rw p refl, same)
