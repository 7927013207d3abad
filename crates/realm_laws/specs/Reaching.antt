-- Whom a call and an event reach (docs/PROTOCOL.md, "The realm").
use Rattle.std.specs.Prelude.{◌≡◌, ℕ, true, false, List, [], ◌∷◌, ◌++◌, All, Option, Some, Ok}
use Rattle.paxos_packets.specs.declared.transport.Transport.{Transport}
use Rattle.wamp_ids.specs.Id.{is_id}
use Rattle.wamp_ids.specs.Uri.{uri_of, is_reserved}
use Rattle.wamp_values.specs.declared.args.Args.{Args}
use Rattle.wamp_message_types.specs.declared.call.Call.{Call}
use Rattle.wamp_message_types.specs.declared.message.Message.TheVariants as message
use Rattle.realm_sessions.specs.Links.{transport_of, has_number}
use Rattle.realm_registrations.specs.declared.registration.Chosen.{Chosen}
use Rattle.realm_registrations.specs.Registrations.{choose}
use Rattle.realm_subscriptions.specs.declared.receiving.Receiver.{Receiver}
use Rattle.realm_subscriptions.specs.Receiving.{receivers}
use Rattle.realm_calls.specs.Calls.{has, is_full, open_of, open_call}
use Rattle.realm_machine.specs.Sayings.{say}
use Rattle.realm_machine.specs.Sayings.Events.{event_of, event_to}
use Rattle.realm_machine.specs.Sayings.Invocations.{invocation}
use Rattle.realm_machine.specs.declared.requester.Requester.{Requester}
use Rattle.realm_machine.specs.Config.{Config}
use Rattle.realm_machine.specs.Content.{Content}
use Rattle.realm_machine.specs.Calling.{on_call}
use Rattle.realm_laws.specs.Laws.{IsSound}

-- all 2^53 ids are ids of the session's open invocations
abbrev pub AreSpent : Content → ℕ → Type 0
AreSpent c callee = (id : ℕ) → is_id id ≡ true → has_number (open_of c.calls.list callee) id ≡ true

-- an invocation is open under this free id, and its callee is sent the INVOCATION alone
pub record Invokes (c : Content) (requester : Requester) (call : Call) (chosen : Chosen) : Type 0 where
  pub id : ℕ
  pub is_id : is_id id ≡ true
  pub free : has_number (open_of c.calls.list chosen.callee) id ≡ false
  pub opens : (on_call c requester call).content.calls.list
      ≡ c.calls.list ++ open_call requester.session call.request chosen.callee id call.receive_progress ∷ []
  pub transport : Transport
  pub there : transport_of c.sessions.list chosen.callee ≡ Some transport
  pub says : (on_call c requester call).says ≡ say transport (invocation id requester.session chosen call) ∷ []

-- a CALL that finds a callee, of a caller that may have one more open call, is an INVOCATION
abbrev pub InvokesTheCallee : Type 0
InvokesTheCallee = (config : Config) (c : Content) (requester : Requester) (call : Call) (uri : List ℕ) (chosen : Chosen)
    → IsSound config c → has c.calls.list requester.session call.request ≡ false
    → uri_of call.procedure ≡ Ok uri → is_reserved uri ≡ false → choose c.registrations uri ≡ Some chosen
    → is_full c.calls requester.session ≡ false → (AreSpent c chosen.callee → ⊥) → Invokes c requester call chosen

-- an EVENT is sent to each receiver of a publication
pub record IsSent (c : Content) (topic : List ℕ) (publication : ℕ) (args : Args) (receiver : Receiver) : Type 0 where
  pub transport : Transport
  pub there : transport_of c.sessions.list receiver.member ≡ Some transport
  pub says : event_to c.sessions.list topic publication args receiver
      ≡ say transport (message.Event (event_of topic publication args receiver)) ∷ []

abbrev pub SendsEachEvent : Type 0
SendsEachEvent = (config : Config) (c : Content) (topic : List ℕ) (publication : ℕ) (args : Args) (except : Option ℕ) → IsSound config c
    → All (IsSent c topic publication args) (receivers c.subscriptions topic except)
