-- What one client is due: the octets that answer the octets which it sends (WAMP specification, "RawSocket Transport" and
-- "Sessions"; docs/PROTOCOL.md, "A stream").
use Rattle.std.specs.Prelude.{◌≡◌, ◌⊎◌, ℕ, ◌^◌, ◌≤◌, ◌==◌, nat_le, Bool, true, false, IsTrue, MatchBool, List, [], ◌∷◌, ◌++◌, length}
use Rattle.std.specs.Prelude.{Option, Result, Ok, Err, if◌then◌else◌}
use Rattle.std.specs.Io.KnownBytes.{Appends, Consumes, IsAtEnd}
use Rattle.wamp_ids.specs.Id.{id_after}
use Rattle.paxos_packets.specs.declared.transport.Transport.{Transport}
use Rattle.paxos_packets.specs.Transport.{same_transport}
use Rattle.wamp_messages.specs.Writing.{text_of}
use Rattle.wamp_messages.specs.Reading.{read_of}
use Rattle.wamp_rawsocket.specs.declared.frame.FrameKind.{FrameKind}
use Rattle.wamp_rawsocket.specs.declared.frame.FrameKind.TheVariants as kind
use Rattle.wamp_rawsocket.specs.declared.handshake_answer.Answer.{Answer}
use Rattle.wamp_rawsocket.specs.declared.handshake_answer.Answer.TheVariants.{Terms, Refuse, Hang}
use Rattle.wamp_rawsocket.specs.Frame.{frame_octets, outbound_limit}
use Rattle.wamp_rawsocket.specs.Handshake.{answer_of}
use Rattle.wamp_rawsocket.specs.Splitter.{Frames, ended, broken, frame, frames_of}
use Rattle.realm_acts.specs.declared.act.Act.TheVariants.{Connect, Said, Hung}
use Rattle.realm_machine.specs.declared.sayings.say.Out.{Out}
use Rattle.realm_machine.specs.declared.sayings.say.Out.TheVariants.{Send, Close}
use Rattle.realm_machine.specs.declared.sayings.say.Say.{Say}
use Rattle.realm_machine.specs.Config.{Config}
use Rattle.realm_machine.specs.Content.{Content, empty}
use Rattle.realm_machine.specs.Step.{next, says}
use Rattle.stream_program.specs.declared.fault.RunFault.{RunFault}
use Rattle.stream_program.specs.declared.fault.RunFault.TheVariants as run_fault

-- the client's transport
abbrev pub client : Transport
client = record { node = 1; boot = 1; number = 1 }

-- the realm of this name, with this program's limits
abbrev pub config_of : List ℕ → Config
config_of name = record { name = name; limits = record { sessions = 4096; registrations = 1024; subscriptions = 1024; calls = 1024 } }

-- how a run ends
pub data Ending : Type 0 where
  -- fewer than four octets came
  unheard : Ending
  -- the handshake was refused, or not answered at all
  unwelcome : Ending
  -- the client sent no more
  silent : Ending
  -- the realm closed the transport
  closed : Ending
  -- the client sent what is no frame
  broken_off : Ending
  -- a message or PONG was longer than the client takes
  too_wide : Ending

-- what is written, and how the run ends
pub record Run : Type 0 where
  pub octets : List ℕ
  pub ending : Ending

abbrev pub ends : Ending → Run
ends ending = record { octets = []; ending = ending }

abbrev pub behind : List ℕ → Run → Run
behind octets run = record { octets = octets ++ run.octets; ending = run.ending }

-- a frame, and then what follows, if the client takes a payload of this length
abbrev pub framed : ℕ → FrameKind → List ℕ → Run → Run
framed limit kind payload after = if nat_le (length payload) (outbound_limit limit) then behind (frame_octets kind payload) after else ends too_wide

abbrev pub heard : ℕ → Out → Run → Run
heard limit (Send message) after = framed limit kind.Message (text_of message) after
heard limit Close after = ends closed

-- what is said to the client, one after the other, and then what follows
abbrev pub told : ℕ → List Say → Run → Run
told limit [] after = after
told limit (say ∷ others) after =
    if same_transport say.transport client then heard limit say.out (told limit others after) else told limit others after

-- frame by frame: what is read of a message is said to the realm, the first one with draw 1, each later one with the next;
-- a PING is answered by a PONG, a PONG by nothing; the end of the frames is the end of the transport
abbrev pub answered : Config → ℕ → Content → ℕ → Frames → Run
answered config limit c draw ended = told limit (says config c client Hung) (ends silent)
answered config limit c draw (broken fault) = ends broken_off
answered config limit c draw (frame kind.Message payload others) =
    told limit (says config c client (Said draw (read_of payload)))
    (answered config limit (next config c client (Said draw (read_of payload))) (id_after draw) others)
answered config limit c draw (frame kind.Ping payload others) = framed limit kind.Pong payload (answered config limit c draw others)
answered config limit c draw (frame kind.Pong payload others) = answered config limit c draw others

-- the transport is open: it is connected to the realm, and then its frames are answered
abbrev pub opened : Config → ℕ → List ℕ → Run
opened config limit octets =
    told limit (says config (empty config.limits) client Connect)
    (answered config limit (next config (empty config.limits) client Connect) 1 (frames_of octets))

abbrev pub greeted : Config → Answer → List ℕ → Run
greeted config (Terms limit answer) octets = behind answer (opened config limit octets)
greeted config (Refuse answer) octets = record { octets = answer; ending = unwelcome }
greeted config Hang octets = ends unwelcome

-- the run over these octets, in the realm of this name
abbrev pub run_of : List ℕ → List ℕ → Run
run_of name (first ∷ (second ∷ (third ∷ (fourth ∷ octets)))) =
    greeted (config_of name) (answer_of (first ∷ (second ∷ (third ∷ (fourth ∷ [])))) true) octets
run_of name octets = ends unheard

-- the octets that are due to one client's octets
abbrev pub stream : List ℕ → List ℕ → List ℕ
stream name octets = (run_of name octets).octets

-- after this ending nothing more is read
abbrev pub is_final : Ending → Bool
is_final unheard = false
is_final silent = false
is_final ending = true

-- the answer of a run that ends so
abbrev pub answer_at : Ending → Result (Unit {0}) RunFault
answer_at unheard = Err (run_fault.Transport 81)
answer_at unwelcome = Err (run_fault.Transport 81)
answer_at silent = Ok tt
answer_at closed = Ok tt
answer_at broken_off = Err (run_fault.Transport 82)
answer_at too_wide = Err (run_fault.Transport 87)

-- the most reads of a run
abbrev pub most_turns : ℕ
most_turns = 2 ^ 32

-- ---- what a run that was due this leaves

-- all of it was written, and nothing else; the answer is that of its ending, and bytes are left unread only after a final one
pub record Serves (due : Run) (result : Result (Unit {0}) RunFault) (left old new : Option (List ℕ)) : Type 0 where
  pub is_written : Appends old new due.octets
  pub answer : result ≡ answer_at due.ending
  pub whole : IsAtEnd left ⊎ IsTrue (is_final due.ending)

-- all of it was written, and nothing else, and more would have been read
pub record Stops (due : Run) (old new : Option (List ℕ)) : Type 0 where
  pub is_written : Appends old new due.octets
  pub is_open : is_final due.ending ≡ false

-- a prefix of it was written
pub record Breaks (due : Run) (old new : Option (List ℕ)) : Type 0 where
  pub front : List ℕ
  pub rest : List ℕ
  pub is_front : due.octets ≡ front ++ rest
  pub is_written : Appends old new front

-- if this many octets were read: 83 a read failed, 84 a write failed, 85 the reads were spent, each of which read an octet at least
abbrev pub Ended : Run → ℕ → Result (Unit {0}) RunFault → Option (List ℕ) → Option (List ℕ) → Option (List ℕ) → Type 0
Ended due count (Ok x) left old new = Serves due (Ok x) left old new
Ended due count (Err (run_fault.Line number)) left old new = ⊥
Ended due count (Err (run_fault.Store number)) left old new = ⊥
Ended due count (Err run_fault.Memory) left old new = Breaks due old new
Ended due count (Err (run_fault.Transport number)) left old new =
    MatchBool (number == 83) (Stops due old new)
    (MatchBool (number == 84) (Unit {0})
    (MatchBool (number == 85) (Stops due old new × (most_turns ≤ count))
    (Serves due (Err (run_fault.Transport number)) left old new)))

-- these octets were read, which are the reader's next ones if it says its bytes, and what was due to them was written
abbrev pub Ends : (List ℕ → Run) → Result (Unit {0}) RunFault → Option (List ℕ) → Option (List ℕ) → Option (List ℕ) → Option (List ℕ) → Type 0
Ends due result input left old new = (octets : List ℕ) × Consumes input left octets × Ended (due octets) (length octets) result left old new
