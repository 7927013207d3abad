-- The realm's content, and steps: what comes of it and what is said (WAMP specification, "Sessions"; docs/PROTOCOL.md, "The realm").
use Rattle.std.specs.Prelude.{◌≡◌, ℕ, List, [], ◌∷◌, ◌++◌, Option, None, Some, Result, IfOk}
use Rattle.std.specs.declared.vec.Vec.{Vec}
use Rattle.std.specs.declared.alloc.Global.{Global}
use Rattle.paxos_packets.specs.declared.transport.Transport.{Transport}
use Rattle.wamp_message_types.specs.declared.message.Message.{Message}
use Rattle.wamp_message_types.specs.declared.request_kind.RequestKind.{RequestKind}
use Rattle.realm_machine.specs.declared.sayings.say.Say.{Say}
use Rattle.realm_machine.specs.Sayings.{say, refusal}
use Rattle.realm_sessions.specs.declared.links.Link.{Link}
use Rattle.realm_sessions.specs.declared.fault.RealmFault.{RealmFault}
use Rattle.realm_sessions.specs.Fault.{uri_of}
use Rattle.realm_sessions.specs.Sessions.{Sessions, with_list}
use Rattle.realm_registrations.specs.Registrations.{Registrations, no_registrations}
use Rattle.realm_subscriptions.specs.Subscriptions.{Subscriptions, no_subscriptions}
use Rattle.realm_calls.specs.declared.calls.Open.{Open}
use Rattle.realm_calls.specs.Calls.{Calls}
use Rattle.realm_calls.specs.Calls as calls
use Rattle.realm_machine.specs.declared.config.Limits.{Limits}

pub record Content : Type 0 where
  pub sessions : Sessions
  pub registrations : Registrations
  pub subscriptions : Subscriptions
  pub calls : Calls

-- what its parts are held to
abbrev pub limits_in : Content → Limits
limits_in c = record {
  sessions = c.sessions.limit;
  registrations = c.registrations.limit;
  subscriptions = c.subscriptions.limit;
  calls = c.calls.limit;
}

-- nothing, under these limits
abbrev pub empty : Limits → Content
empty limits = record {
  sessions = record { limit = limits.sessions; list = [] };
  registrations = no_registrations limits.registrations;
  subscriptions = no_subscriptions limits.subscriptions;
  calls = record { limit = limits.calls; list = [] };
}

abbrev pub with_links : Content → List Link → Content
with_links c links = record c { sessions = with_list c.sessions links }

abbrev pub with_registrations : Content → Registrations → Content
with_registrations c registrations = record c { registrations = registrations }

abbrev pub with_subscriptions : Content → Subscriptions → Content
with_subscriptions c subscriptions = record c { subscriptions = subscriptions }

abbrev pub with_calls : Content → List Open → Content
with_calls c list = record c { calls = calls.with_list c.calls list }

-- the content after a step, and what is said in it
pub record Step : Type 0 where
  pub content : Content
  pub says : List Say

-- nothing is said
abbrev pub quiet : Content → Step
quiet c = record { content = c; says = [] }

-- the transport is sent one message
abbrev pub reply : Content → Transport → Message → Step
reply c t message = record { content = c; says = say t message ∷ [] }

-- a request is refused for this error
abbrev pub refuse : Content → Transport → RequestKind → ℕ → List ℕ → Step
refuse c t kind request error = reply c t (refusal kind request error)

abbrev pub refuse_by : Content → Transport → RequestKind → ℕ → Option (List ℕ) → Step
refuse_by c t kind request None = quiet c
refuse_by c t kind request (Some error) = refuse c t kind request error

-- a request is refused for a part's fault, by its URI; the faults without one refuse no request
abbrev pub refuse_for : Content → Transport → RequestKind → ℕ → RealmFault → Step
refuse_for c t kind request fault = refuse_by c t kind request (uri_of fault)

-- one step, then another on what the first leaves
abbrev pub and_then : Step → (Content → Step) → Step
and_then first second = record {
  content = (second first.content).content;
  says = first.says ++ (second first.content).says;
}

-- a method takes the step: it says what the step says, and leaves its content, unless memory runs out
abbrev pub Does : {E : Type 0} → Result (Vec Say Global) E → Content → Step → Type 0
Does result new step = IfOk result (λ says. (says.items ≡ step.says) × (new ≡ step.content))
