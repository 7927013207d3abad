-- What a service owes once a frame was taken.
use Rattle.std.proofs.Common.{◌≡◌, ℕ, ◌<◌, false, List, [], ◌∷◌, Option, None, Some, Result, Ok, Err, refl, sym, ◌∙◌, ap, append-nil}
use Rattle.std.specs.List.{All}
use Rattle.std.proofs.lemmas.Bool.{cond-false}
use Rattle.std.proofs.lemmas.List.Elements.{All-head, All-tail}
use Rattle.paxos_packets.specs.Transport.{same_transport}
use Rattle.wamp_ids.specs.Id.{id_after}
use Rattle.wamp_messages.specs.Reading.{read_of}
use Rattle.wamp_rawsocket.specs.declared.fault.FrameFault.{FrameFault}
use Rattle.wamp_rawsocket.specs.declared.frame.FrameRef.{FrameRef}
use Rattle.wamp_rawsocket.specs.declared.frame.FrameKind.{FrameKind}
use Rattle.wamp_rawsocket.specs.declared.frame.FrameKind.TheVariants as kind
use Rattle.wamp_rawsocket.specs.Splitter.{whole, faulty, front_of}
use Rattle.wamp_rawsocket.proofs.Streams.{whole_leaves_less, frames_at_whole, frames_at_fault, frames_at_end}
use Rattle.realm_machine.specs.declared.sayings.say.Say.{Say}
use Rattle.realm_machine.specs.Config.{Config}
use Rattle.realm_acts.specs.declared.act.Act.TheVariants.{Said, Hung}
use Rattle.realm_machine.specs.Content.{Content}
use Rattle.realm_machine.proofs.Unheard as hung
use Rattle.realm_machine.specs.Step.{next, says}
use Rattle.stream_program.specs.declared.fault.RunFault.{RunFault}
use Rattle.stream_program.specs.declared.fault.RunFault.TheVariants.{Line, Store, Memory, Transport}
use Rattle.stream_program.specs.declared.progress.Progress.{Progress}
use Rattle.stream_program.specs.declared.progress.Progress.TheVariants.{Onward}
use Rattle.stream_program.specs.Stream.{Run, ends, silent, broken_off, client, framed, heard, told, answered}
use Rattle.stream_program.specs.Replies.{Puts}
use Rattle.stream_program.specs.declared.service.Service.{Service}
use Rattle.stream_program.specs.Service.{content_of, due_of, due, held_len, Takes, Performs}
use Rattle.stream_program.proofs.Putting.{put_nothing, puts_none, puts_fault, puts_same}

-- a message at the front is said to the realm, and then what follows is answered
due_at_message : (config : Config) (limit : ℕ) (c : Content) (draw : ℕ) (held payload rest more : List ℕ)
    → front_of held ≡ whole kind.Message payload rest
    → due_of config limit c draw (Some held) more ≡ told limit (says config c client (Said draw (read_of payload)))
    (due_of config limit (next config c client (Said draw (read_of payload))) (id_after draw) (Some rest) more)
due_at_message config limit c draw held payload rest more e =
    ap (answered config limit c draw) (frames_at_whole held payload rest more kind.Message e)

due_at_ping : (config : Config) (limit : ℕ) (c : Content) (draw : ℕ) (held payload rest more : List ℕ) → front_of held ≡ whole kind.Ping payload rest
    → due_of config limit c draw (Some held) more ≡ framed limit kind.Pong payload (due_of config limit c draw (Some rest) more)
due_at_ping config limit c draw held payload rest more e = ap (answered config limit c draw) (frames_at_whole held payload rest more kind.Ping e)

due_at_pong : (config : Config) (limit : ℕ) (c : Content) (draw : ℕ) (held payload rest more : List ℕ) → front_of held ≡ whole kind.Pong payload rest
    → due_of config limit c draw (Some held) more ≡ due_of config limit c draw (Some rest) more
due_at_pong config limit c draw held payload rest more e = ap (answered config limit c draw) (frames_at_whole held payload rest more kind.Pong e)

due_at_fault : (config : Config) (limit : ℕ) (c : Content) (draw : ℕ) (held more : List ℕ) (shown : FrameFault) → front_of held ≡ faulty shown
    → due_of config limit c draw (Some held) more ≡ ends broken_off
due_at_fault config limit c draw held more shown e = ap (answered config limit c draw) (frames_at_fault held more shown e)

-- ---- by what the splitter gave

same_fault : (given : Result (Option FrameRef) RunFault) (a b : RunFault) → given ≡ Err a → given ≡ Err b → a ≡ b
same_fault given a b p q = cc

never_fault : (given : Result (Option FrameRef) RunFault) (next : Option FrameRef) (fault : RunFault) → given ≡ Ok next → given ≡ Err fault → ⊥
never_fault given next fault p q = cc

message_at : (frame : FrameRef) (held rest : List ℕ) (s t : Service) (result : Result Progress RunFault) (more : List ℕ)
    → front_of held ≡ whole kind.Message frame.payload.now rest → s.splitter ≡ Some rest
    → Performs result s (Said s.draw (read_of frame.payload.now)) (id_after s.draw) t
    → Puts result (due_of s.realm.config s.replies.limit (content_of s) s.draw (Some held) more) (due t more) s.replies.octets t.replies.octets
message_at frame held rest s t (Ok progress) more front left p =
    let a = p.has_acted in
    puts_same (Ok progress) _ _ _ _ s.replies.octets t.replies.octets
    (due_at_message s.realm.config s.replies.limit (content_of s) s.draw held frame.payload.now rest more front)
    (rw (a.config, a.limit, a.content, a.next_draw, a.held, left) refl)
    (p.puts (due_of s.realm.config s.replies.limit (next s.realm.config (content_of s) client (Said s.draw (read_of frame.payload.now)))
    (id_after s.draw) (Some rest) more))
message_at frame held rest s t (Err fault) more front left p =
    let onward : Run = due_of s.realm.config s.replies.limit
    (next s.realm.config (content_of s) client (Said s.draw (read_of frame.payload.now))) (id_after s.draw) (Some rest) more in
    puts_fault fault _ onward (due t more) s.replies.octets t.replies.octets
    (puts_same (Err fault) _ _ _ _ s.replies.octets t.replies.octets
    (due_at_message s.realm.config s.replies.limit (content_of s) s.draw held frame.payload.now rest more front) refl (p.puts onward))

pub message_puts : (frame : FrameRef) (held : Option (List ℕ)) (s t : Service) (result : Result Progress RunFault) (more : List ℕ)
    → Takes (Ok (Some frame)) held s.splitter → frame.kind ≡ kind.Message
    → Performs result s (Said s.draw (read_of frame.payload.now)) (id_after s.draw) t
    → Puts result (due_of s.realm.config s.replies.limit (content_of s) s.draw held more) (due t more) s.replies.octets t.replies.octets
message_puts frame None s t result more took k p = absurd (never_fault (Ok (Some frame)) (Some frame) (Transport 82) refl took)
message_puts frame (Some held) s t result more took k p =
    message_at frame held took.0 s t result more (took.1 ∙ ap (λ (k : FrameKind). whole k frame.payload.now took.0) k) took.2 p

pub ping_puts : (frame : FrameRef) (held new : Option (List ℕ)) (result : Result Progress RunFault) (config : Config) (limit : ℕ) (c : Content)
    (draw : ℕ) (old put more : List ℕ)
    → Takes (Ok (Some frame)) held new → frame.kind ≡ kind.Ping
    → ((onward : Run) → Puts result (framed limit kind.Pong frame.payload.now onward) onward old put)
    → Puts result (due_of config limit c draw held more) (due_of config limit c draw new more) old put
ping_puts frame None new result config limit c draw old put more t k p = absurd (never_fault (Ok (Some frame)) (Some frame) (Transport 82) refl t)
ping_puts frame (Some held) new result config limit c draw old put more t k p =
    puts_same result _ _ _ _ old put (due_at_ping config limit c draw held frame.payload.now t.0 more
    (t.1 ∙ ap (λ (k : FrameKind). whole k frame.payload.now t.0) k))
    (rw t.2 refl) (p (due_of config limit c draw (Some t.0) more))

pub pong_puts : (frame : FrameRef) (held new : Option (List ℕ)) (config : Config) (limit : ℕ) (c : Content) (draw : ℕ) (old more : List ℕ)
    → Takes (Ok (Some frame)) held new → frame.kind ≡ kind.Pong
    → Puts (Ok Onward) (due_of config limit c draw held more) (due_of config limit c draw new more) old old
pong_puts frame None new config limit c draw old more t k = absurd (never_fault (Ok (Some frame)) (Some frame) (Transport 82) refl t)
pong_puts frame (Some held) new config limit c draw old more t k =
    puts_none _ _ old (due_at_pong config limit c draw held frame.payload.now t.0 more
    (t.1 ∙ ap (λ (k : FrameKind). whole k frame.payload.now t.0) k) ∙ rw t.2 refl)

-- a fault of the frames ends the run
broken_puts : (due onward : Run) (old : List ℕ) → due ≡ ends broken_off → Puts (Err (Transport 82)) due onward old old
broken_puts due onward old e = record { put = []; are_put = sym (append-nil old); rest = due; is_due = refl; is_left = (broken_off, e, refl, refl) }

pub fault_puts : (fault : RunFault) (held new : Option (List ℕ)) (config : Config) (limit : ℕ) (c : Content) (draw : ℕ) (onward : Run)
    (old more : List ℕ)
    → Takes (Err fault) held new → Puts (Err fault) (due_of config limit c draw held more) onward old old
fault_puts Memory held new config limit c draw onward old more t = put_nothing _ onward old old refl
fault_puts (Line number) None new config limit c draw onward old more t =
    let bad : Line number ≡ Transport 82 = same_fault (Err (Line number)) (Line number) (Transport 82) refl t in absurd cc
fault_puts (Line number) (Some held) new config limit c draw onward old more t = let bad : Line number ≡ Transport 82 = t.0 in absurd cc
fault_puts (Store number) None new config limit c draw onward old more t =
    let bad : Store number ≡ Transport 82 = same_fault (Err (Store number)) (Store number) (Transport 82) refl t in absurd cc
fault_puts (Store number) (Some held) new config limit c draw onward old more t = let bad : Store number ≡ Transport 82 = t.0 in absurd cc
fault_puts (Transport number) None new config limit c draw onward old more t =
    let is : Transport number ≡ Transport 82 = same_fault (Err (Transport number)) (Transport number) (Transport 82) refl t in
    let same : number ≡ 82 = cc in
    rw same (broken_puts (ends broken_off) onward old refl)
fault_puts (Transport number) (Some held) new config limit c draw onward old more t =
    let is : Transport number ≡ Transport 82 = t.0 in
    let same : number ≡ 82 = cc in
    rw same (broken_puts _ onward old (due_at_fault config limit c draw held more t.1.0 t.1.1))

-- what is said to others is no due
unheard : (limit : ℕ) (said : List Say) (after : Run) → All (λ (it : Say). same_transport it.transport client ≡ false) said
    → told limit said after ≡ after
unheard limit [] after others = refl
unheard limit (first ∷ rest) after others =
    let IsOther = λ (it : Say). same_transport it.transport client ≡ false in
    cond-false (same_transport first.transport client) (heard limit first.out (told limit rest after)) (told limit rest after)
    (All-head IsOther first rest others) ∙ unheard limit rest after (All-tail IsOther first rest others)

-- nothing is said to a client that hung up
pub hung_unheard : (config : Config) (c : Content) (limit : ℕ) (after : Run) → told limit (says config c client Hung) after ≡ after
hung_unheard config c limit after = unheard limit (says config c client Hung) after (hung.hung_unheard config c client)

-- if no whole frame is held, nothing is due
pub no_frame_due : (held new : Option (List ℕ)) (config : Config) (limit : ℕ) (c : Content) (draw : ℕ)
    → Takes (Ok None) held new → due_of config limit c draw held [] ≡ ends silent
no_frame_due None new config limit c draw t = absurd (never_fault (Ok None) None (Transport 82) refl t)
no_frame_due (Some held) new config limit c draw t =
    rw append-nil (ap (answered config limit c draw) (frames_at_end held t.0)) ∙ hung_unheard config c limit (ends silent)

-- ---- what is held grows shorter

pub frame_shrinks : (frame : FrameRef) (held new : Option (List ℕ)) → Takes (Ok (Some frame)) held new → held_len new < held_len held
frame_shrinks frame None new t = absurd (never_fault (Ok (Some frame)) (Some frame) (Transport 82) refl t)
frame_shrinks frame (Some held) new t = rw t.2 (whole_leaves_less held frame.payload.now t.0 frame.kind t.1)
