-- A client is greeted when its handshake was read, and then answered.
use Rattle.std.proofs.Common.{◌≡◌, ℕ, Bool, List, length, Option, Result, Ok, Err, refl, sym, subst}
use Rattle.std.specs.Io.KnownBytes.{Consumes}
use Rattle.wamp_rawsocket.specs.declared.handshake_answer.Answer.{Answer}
use Rattle.wamp_rawsocket.specs.declared.handshake_answer.Answer.TheVariants.{Hang}
use Rattle.wamp_rawsocket.specs.Handshake.{answer_of}
use Rattle.client_listener.specs.declared.fault.ListenFault.{ListenFault}
use Rattle.client_listener.specs.declared.fault.ListenFault.TheVariants as fault
use Rattle.client_listener.specs.Handshake.{Answers, refuses, hangs, Asked, refused, unanswered, Greets}

module _ {S : Type 0} (remaining contents : S → Option (List ℕ)) (room : Bool) (old read new : S) (octets : List ℕ) where
  -- the answer to the octets that were read
  asked : (answer : Answer) → answer_of octets room ≡ answer → length octets ≡ 4 → Consumes (remaining old) (remaining read) octets
      → Asked remaining contents room old new answer read
  asked answer e four c = record { octets = octets; is_whole = four; is_answer = e; are_read = c }

  pub greeted : (result : Result ℕ ListenFault) → length octets ≡ 4 → Consumes (remaining old) (remaining read) octets
      → Answers contents (answer_of octets room) read new result → Greets remaining contents room old new result
  greeted (Ok limit) four c p = (p.0, read, asked _ p.1 four c, p.2)
  greeted (Err fault.Handshake) four c (refuses told e w) = refused told read (asked _ e four c) w
  greeted (Err fault.Handshake) four c (hangs e same) =
      unanswered (subst (λ (s : S). Asked remaining contents room old new Hang s) (sym same) (asked Hang e four c))
  greeted (Err fault.Write) four c p = (answer_of octets room, read, asked _ refl four c, p)
  greeted (Err fault.Frame) four c p = absurd p
  greeted (Err fault.Read) four c p = absurd p
  greeted (Err fault.Turns) four c p = absurd p
  greeted (Err fault.Memory) four c p = absurd p
  greeted (Err fault.Wide) four c p = absurd p
