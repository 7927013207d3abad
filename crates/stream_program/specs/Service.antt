-- What serves one client, and what it owes the client. This is for private clauses: what is due (Stream), in terms of what is at hand.
use Rattle.std.specs.Prelude.{◌≡◌, ℕ, List, [], ◌++◌, length, Option, None, Some, unwrap_or, Result, Ok, Err, OnOk}
use Rattle.wamp_rawsocket.specs.declared.fault.FrameFault.{FrameFault}
use Rattle.wamp_rawsocket.specs.declared.frame.FrameRef.{FrameRef}
use Rattle.wamp_rawsocket.specs.Splitter.{partial, whole, faulty, front_of, frames_of}
use Rattle.realm_acts.specs.declared.act.Act.{Act}
use Rattle.realm_machine.specs.Config.{Config}
use Rattle.realm_machine.specs.Content.{Content, empty}
use Rattle.realm_machine.specs.Step.{next, says}
use Rattle.stream_program.specs.declared.fault.RunFault.{RunFault}
use Rattle.stream_program.specs.declared.fault.RunFault.TheVariants.{Memory, Transport}
use Rattle.stream_program.specs.declared.progress.Progress.{Progress}
use Rattle.stream_program.specs.declared.service.Service.{Service}
use Rattle.stream_program.specs.Replies.{Puts}
use Rattle.stream_program.specs.Stream.{broken_off, Run, ends, behind, client, config_of, told, answered}

-- the realm's content; what it was does not matter once the realm failed, since the run ends then
abbrev pub content_of : Service → Content
content_of s = unwrap_or s.realm.content (empty s.realm.config.limits)

-- what is due once these octets come, too
abbrev pub due_of : Config → ℕ → Content → ℕ → Option (List ℕ) → List ℕ → Run
due_of config limit c draw None more = ends broken_off
due_of config limit c draw (Some held) more = answered config limit c draw (frames_of (held ++ more))

abbrev pub due : Service → List ℕ → Run
due s more = due_of s.realm.config s.replies.limit (content_of s) s.draw s.splitter more

-- what is due when this happens at the transport, and then what follows
abbrev pub due_at : Service → Act → Run → Run
due_at s act after = told s.replies.limit (says s.realm.config (content_of s) client act) after

-- the realm's content then
abbrev pub content_after : Service → Act → Option Content
content_after s act = Some (next s.realm.config (content_of s) client act)

-- what is owed: the replies that wait, and what is due to what is held once these octets come, too
abbrev pub owed : Service → List ℕ → Run
owed s more = behind s.replies.octets (due s more)

-- the service after an act: the realm has taken its step, and this is the next draw
pub record HasActed (old : Service) (act : Act) (draw : ℕ) (new : Service) : Type 0 where
  pub config : new.realm.config ≡ old.realm.config
  pub content : new.realm.content ≡ content_after old act
  pub next_draw : new.draw ≡ draw
  pub held : new.splitter ≡ old.splitter
  pub limit : new.replies.limit ≡ old.replies.limit

-- the act was given to the realm, and what it says to the client was put after the replies
pub record Performs (result : Result Progress RunFault) (old : Service) (act : Act) (draw : ℕ) (new : Service) : Type 0 where
  pub puts : (after : Run) → Puts result (due_at old act after) after old.replies.octets new.replies.octets
  pub has_acted : OnOk result (HasActed old act draw new)

-- how many octets are held
abbrev pub held_len : Option (List ℕ) → ℕ
held_len None = 0
held_len (Some held) = length held

-- a service before anything came
pub record IsFirst (name : List ℕ) (limit : ℕ) (s : Service) : Type 0 where
  pub config : s.realm.config ≡ config_of name
  pub content : s.realm.content ≡ Some (empty (config_of name).limits)
  pub draw : s.draw ≡ 1
  pub held : s.splitter ≡ Some []
  pub limits : s.replies.limit ≡ limit
  pub no_replies : s.replies.octets ≡ []

-- a splitter shows its first frame, none if it holds no whole one, or a fault; and what it holds after it
abbrev pub Takes : Result (Option FrameRef) RunFault → Option (List ℕ) → Option (List ℕ) → Type 0
Takes result None new = result ≡ Err (Transport 82)
Takes (Ok (Some frame)) (Some held) new = (rest : List ℕ) × (front_of held ≡ whole frame.kind frame.payload.now rest) × (new ≡ Some rest)
Takes (Ok None) (Some held) new = (front_of held ≡ partial) × (new ≡ Some held)
Takes (Err Memory) (Some held) new = Unit {0}
Takes (Err fault) (Some held) new = (fault ≡ Transport 82) × ((shown : FrameFault) × (front_of held ≡ faulty shown))
