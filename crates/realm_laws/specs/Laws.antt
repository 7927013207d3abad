-- Laws of the realm's step, over every configuration and every list of inputs (docs/PROTOCOL.md, "The realm").
use Rattle.std.specs.Prelude.{◌≡◌, ℕ, ◌<◌, ◌^◌, Bool, true, false, List, fold, All, Some}
use Rattle.paxos_packets.specs.declared.transport.Transport.{Transport}
use Rattle.replica_machine.specs.declared.input.Input.{Input}
use Rattle.wamp_ids.specs.Id.{is_id}
use Rattle.realm_acts.specs.declared.act.Act.{Act}
use Rattle.realm_sessions.specs.declared.links.Link.{Link}
use Rattle.realm_sessions.specs.Links.{is_taken, session_count}
use Rattle.realm_sessions.specs.Sessions.{opened}
use Rattle.realm_sessions.specs.Laws.{AreSoundLinks}
use Rattle.realm_registrations.specs.declared.registration.Registration.{Registration}
use Rattle.realm_registrations.specs.Laws.{AreSoundRegistrations}
use Rattle.realm_subscriptions.specs.declared.subscription.Subscription.{Subscription}
use Rattle.realm_subscriptions.specs.Laws.{AreSoundSubscriptions}
use Rattle.realm_calls.specs.declared.calls.Open.{Open}
use Rattle.realm_calls.specs.Laws.{AreSoundCalls}
use Rattle.realm_machine.specs.Config.{Config}
use Rattle.realm_machine.specs.Content.{Content, empty}
use Rattle.realm_machine.specs.Opening.{open_at, welcomed}
use Rattle.realm_machine.specs.Step.{after_input}
use Rattle.realm_laws.specs.Trace.{Letter, trace, begins_with_reply, replies_after_answer}

-- ---- what every realm keeps

-- each callee is an open session
abbrev pub AreCalleesOpen : List Link → List Registration → Type 0
AreCalleesOpen links registrations =
    All (λ (registration : Registration). All (λ (callee : ℕ). is_taken links callee ≡ true) registration.callees) registrations

-- each member is an open session
abbrev pub AreMembersOpen : List Link → List Subscription → Type 0
AreMembersOpen links subscriptions =
    All (λ (subscription : Subscription). All (λ (member : ℕ). is_taken links member ≡ true) subscription.members) subscriptions

pub record IsSound (config : Config) (c : Content) : Type 0 where
  -- sessions, subscriptions, registrations and calls are held to the limits of the configuration
  pub limit : c.sessions.limit ≡ config.limits.sessions
  pub subscriptions_limit : c.subscriptions.limit ≡ config.limits.subscriptions
  pub registrations_limit : c.registrations.limit ≡ config.limits.registrations
  pub calls_limit : c.calls.limit ≡ config.limits.calls
  pub links : AreSoundLinks c.sessions.list
  pub registrations : AreSoundRegistrations c.registrations
  pub subscriptions : AreSoundSubscriptions c.subscriptions
  -- callees and members are open sessions
  pub callees : AreCalleesOpen c.sessions.list c.registrations.list
  pub members : AreMembersOpen c.sessions.list c.subscriptions.list

-- the content after these inputs
abbrev pub after : Config → Content → List (Input Act) → Content
after config c inputs = fold (λ c input. after_input config c input) c inputs

abbrev pub EmptyIsSound : Type 0
EmptyIsSound = (config : Config) → IsSound config (empty config.limits)

abbrev pub EachInputKeepsSound : Type 0
EachInputKeepsSound = (config : Config) (c : Content) (input : Input Act) → IsSound config c
    → IsSound config (after_input config c input)

abbrev pub EveryRealmIsSound : Type 0
EveryRealmIsSound = (config : Config) (inputs : List (Input Act))
    → IsSound config (after config (empty config.limits) inputs)

-- ---- calls

-- replies answer calls: a trace does not begin with a progressive result or a final reply, and neither comes right after a final one
pub record IsTrace (letters : List Letter) : Type 0 where
  pub begins : begins_with_reply letters ≡ false
  pub one : replies_after_answer letters ≡ false

abbrev pub RepliesAnswerCalls : Type 0
RepliesAnswerCalls = (config : Config) (inputs : List (Input Act)) (t : Transport) (request : ℕ)
    → IsTrace (trace config t request (empty config.limits) inputs)

pub record AreSoundOpenCalls (c : Content) : Type 0 where
  -- no two open calls have one caller and request, nor one callee and invocation
  pub calls : AreSoundCalls c.calls.list
  -- callers and callees are sessions that are there
  pub callers : All (λ (call : Open). is_taken c.sessions.list call.caller ≡ true) c.calls.list
  pub callees : All (λ (call : Open). is_taken c.sessions.list call.callee ≡ true) c.calls.list

abbrev pub EveryOpenCallIsSound : Type 0
EveryOpenCallIsSound = (config : Config) (inputs : List (Input Act))
    → AreSoundOpenCalls (after config (empty config.limits) inputs)

-- ---- a session has an id

-- a HELLO to this realm opens a session with an id that no other has while it may have one more: it is never refused because the ids ran
-- out
abbrev pub OpensWhereRoom : Type 0
OpensWhereRoom = (config : Config) (c : Content) (t : Transport) (draw : ℕ) (canceling : Bool) → is_id draw ≡ true
    → config.limits.sessions < 2 ^ 32 → c.sessions.limit ≡ config.limits.sessions
    → session_count c.sessions.list < config.limits.sessions
    → (id : ℕ) × (is_id id ≡ true) × (is_taken c.sessions.list id ≡ false)
    × (open_at config c t draw (record { realm = config.name; canceling = canceling })
    ≡ welcomed c t (opened c.sessions t canceling (Some id)))
