-- What every realm keeps is kept by each input.
use Rattle.std.proofs.Common.{◌≡◌, ℕ, ◌<◌, Bool, true, false, not, List, [], ◌∷◌, ◌^◌}
use Rattle.std.proofs.Common.{Option, None, Some, bytes_eq, refl, sym, ap, subst, ◌∙◌}
use Rattle.std.proofs.lemmas.Bool.{cond_both, cond-false, not_from_true}
use Rattle.std.proofs.lemmas.Slice.Eq.{bytes_eq-Decides}
use Rattle.paxos_packets.specs.declared.transport.Transport.{Transport}
use Rattle.wamp_ids.specs.Pattern.{pattern_of}
use Rattle.wamp_message_types.specs.declared.request_kind.RequestKind.{RequestKind}
use Rattle.wamp_message_types.specs.declared.request_kind.RequestKind.TheVariants as kind
use Rattle.wamp_message_types.specs.declared.message.Message.{Message}
use Rattle.wamp_message_types.specs.declared.message.Message.TheVariants.{Hello, Abort, Goodbye, Error, Publish, Subscribe}
use Rattle.wamp_message_types.specs.declared.message.Message.TheVariants.{Unsubscribe, Register, Unregister}
use Rattle.wamp_message_types.specs.declared.message.Message.TheVariants.{Call, Cancel, Yield}
use Rattle.wamp_message_types.specs.declared.read_result.UnfitKind.{UnfitKind}
use Rattle.wamp_message_types.specs.declared.read_result.UnfitKind.TheVariants as unfit
use Rattle.wamp_message_types.specs.declared.read_result.Read.{Read}
use Rattle.wamp_message_types.specs.declared.read_result.Read.TheVariants.{Good, Unfit, Bad}
use Rattle.realm_acts.specs.declared.act.Act.{Act}
use Rattle.realm_acts.specs.declared.act.Act.TheVariants.{Connect, Said, Hung}
use Rattle.realm_sessions.specs.Links.{is_taken, by_transport, of_origin, session_count, connect}
use Rattle.replica_machine.specs.declared.input.Input.{Input}
use Rattle.replica_machine.specs.declared.input.Input.TheVariants.{Boot, Lost, Item}
use Rattle.realm_sessions.specs.Sessions.{open_session}
use Rattle.realm_machine.specs.Sayings.{no_such_realm, invalid_argument}
use Rattle.realm_machine.specs.Sayings.Invocations.{failure}
use Rattle.realm_machine.specs.declared.requester.Requester.{Requester}
use Rattle.realm_machine.specs.Config.{Config}
use Rattle.realm_machine.specs.Content.{Content, empty}
use Rattle.realm_machine.specs.Leaving.{stop, violation, one_gone, all_gone}
use Rattle.realm_machine.specs.Opening.{welcomed}
use Rattle.realm_machine.specs.Step.{refuse_unless, on_unfit, on_error, on_request, on_opening, on_message, on_read}
use Rattle.realm_machine.specs.Step.{on_transport, next, after_input}
use Rattle.realm_laws.specs.Laws.{IsSound, EmptyIsSound, EachInputKeepsSound, EveryRealmIsSound, OpensWhereRoom, after}
use Rattle.realm_registrations.proofs.SoundRegistrations as sound_registrations
use Rattle.wamp_values.specs.declared.args.Args.TheVariants.{Nothing}
use Rattle.wamp_message_types.specs.declared.error.Error as error
use Rattle.realm_calls.specs.Calls.{has}
use Rattle.realm_calls.specs.Calls as calls
use Rattle.realm_sessions.proofs.SoundLinks as links
use Rattle.realm_sessions.proofs.FreeIds as free
use Rattle.realm_subscriptions.proofs.Sound as sound_subscriptions
use Rattle.std.proofs.lemmas.List.Elements.{All-nil}
use Rattle.realm_laws.proofs.Standing.{at_taken, session_at, connected_taken}
use Rattle.realm_laws.proofs.Holders.{callees_stay, members_stay}
use Rattle.realm_laws.proofs.SoundParts.{Keeps, remove_sound, violation_sound, aborted_sound, goodbye_sound}
use Rattle.realm_laws.proofs.SoundParts.{hello_sound, subscribe_to_sound, unsubscribe_sound, publish_sound}
use Rattle.realm_laws.proofs.SoundParts.{register_for_sound, unregister_sound}
use Rattle.realm_laws.proofs.SoundCalling.{call_sound, cancel_sound, reply_sound, yield_sound}

-- ---- by what the client sends

unless_sound : (config : Config) (c : Content) (r : Requester) (k : RequestKind) (request : ℕ) (is_quiet : Bool)
    → IsSound config c
    → Keeps config (refuse_unless c r k request is_quiet)
unless_sound config c r k request true ok = ok
unless_sound config c r k request false ok = ok

unfit_sound : (config : Config) (c : Content) (r : Requester) (k : UnfitKind) (request : ℕ) (is_quiet : Bool)
    → IsSound config c
    → Keeps config (on_unfit c r k request is_quiet)
unfit_sound config c r unfit.Publish request is_quiet ok = unless_sound config c r kind.Publish request is_quiet ok
unfit_sound config c r unfit.Subscribe request is_quiet ok = unless_sound config c r kind.Subscribe request is_quiet ok
unfit_sound config c r unfit.Register request is_quiet ok = unless_sound config c r kind.Register request is_quiet ok
unfit_sound config c r unfit.Call request is_quiet ok =
    cond_both (has c.calls.list r.session request) (violation c r.transport)
    (refuse_unless c r kind.Call request is_quiet) (Keeps config)
    (λ _. violation_sound config c r.transport ok) (λ _. unless_sound config c r kind.Call request is_quiet ok)
unfit_sound config c r unfit.Cancel request is_quiet ok = unless_sound config c r kind.Cancel request is_quiet ok
unfit_sound config c r unfit.Yield request is_quiet ok =
    reply_sound config c r.session request (failure invalid_argument Nothing) ok

error_sound : (config : Config) (c : Content) (r : Requester) (k : RequestKind) (it : error.Error) → IsSound config c
    → Keeps config (on_error c r k it)
error_sound config c r kind.Invocation it ok = reply_sound config c r.session it.request (failure it.error it.args) ok
error_sound config c r k it ok = violation_sound config c r.transport ok

request_sound : (config : Config) (c : Content) (r : Requester) (message : Message) → is_taken c.sessions.list r.session ≡ true
    → IsSound config c → Keeps config (on_request config c r message)
request_sound config c r (Abort reason) here ok = aborted_sound config c r.transport ok
request_sound config c r (Goodbye reason) here ok = goodbye_sound config c r.transport ok
request_sound config c r (Error it) here ok = error_sound config c r it.kind it ok
request_sound config c r (Publish asked) here ok = publish_sound config c r asked ok
request_sound config c r (Subscribe asked) here ok =
    subscribe_to_sound config c r asked.request (pattern_of asked.topic asked.matching) here ok
request_sound config c r (Unsubscribe asked) here ok = unsubscribe_sound config c r asked ok
request_sound config c r (Register asked) here ok =
    register_for_sound config c r asked.request asked.invoke (pattern_of asked.procedure asked.matching) here ok
request_sound config c r (Unregister asked) here ok = unregister_sound config c r asked ok
request_sound config c r (Call asked) here ok = call_sound config c r asked ok
request_sound config c r (Cancel asked) here ok =
    cancel_sound config c r asked.mode (calls.call_of c.calls.list r.session asked.request) ok
request_sound config c r (Yield asked) here ok = yield_sound config c r asked ok
request_sound config c r message here ok = violation_sound config c r.transport ok

opening_sound : (config : Config) (c : Content) (t : Transport) (draw : ℕ) (message : Message)
    → by_transport c.sessions.list t ≡ Some None → IsSound config c → Keeps config (on_opening config c t draw message)
opening_sound config c t draw (Hello hello) here ok = hello_sound config c t draw hello here ok
opening_sound config c t draw (Abort reason) here ok = aborted_sound config c t ok
opening_sound config c t draw message here ok = violation_sound config c t ok

message_sound : (config : Config) (c : Content) (t : Transport) (session : Option ℕ) (draw : ℕ) (message : Message)
    → by_transport c.sessions.list t ≡ Some session → IsSound config c
    → Keeps config (on_message config c t session draw message)
message_sound config c t None draw message e ok = opening_sound config c t draw message e ok
message_sound config c t (Some session) draw message e ok =
    request_sound config c (record { transport = t; session = session; draw = draw }) message
    (at_taken c.sessions.list t session (session_at c.sessions.list t session e)) ok

read_sound : (config : Config) (c : Content) (t : Transport) (session : Option ℕ) (draw : ℕ) (read : Read)
    → by_transport c.sessions.list t ≡ Some session → IsSound config c
    → Keeps config (on_read config c t session draw read)
read_sound config c t session draw (Good message) e ok = message_sound config c t session draw message e ok
read_sound config c t None draw (Unfit k request is_quiet) e ok = violation_sound config c t ok
read_sound config c t (Some session) draw (Unfit k request is_quiet) e ok =
    unfit_sound config c (record { transport = t; session = session; draw = draw }) k request is_quiet ok
read_sound config c t session draw (Bad fault) e ok = violation_sound config c t ok

transport_sound : (config : Config) (c : Content) (t : Transport) (draw : ℕ) (read : Read)
    (session : Option (Option ℕ)) → by_transport c.sessions.list t ≡ session → IsSound config c
    → Keeps config (on_transport config c t draw read session)
transport_sound config c t draw read None e ok = ok
transport_sound config c t draw read (Some session) e ok = read_sound config c t session draw read e ok

-- ---- the laws

pub empty_sound : EmptyIsSound
empty_sound config = record {
  limit = refl;
  subscriptions_limit = refl;
  registrations_limit = refl;
  calls_limit = refl;
  links = links.nothing_sound;
  registrations = sound_registrations.nothing_sound config.limits.registrations;
  subscriptions = sound_subscriptions.nothing_sound config.limits.subscriptions;
  callees = All-nil _;
  members = All-nil _;
}

act_sound : (config : Config) (c : Content) (t : Transport) (act : Act) → IsSound config c
    → IsSound config (next config c t act)
act_sound config c t Connect ok =
    record {
      limit = ok.limit;
      subscriptions_limit = ok.subscriptions_limit;
      registrations_limit = ok.registrations_limit;
      calls_limit = ok.calls_limit;
      links = links.connected_sound c.sessions.list t ok.links;
      registrations = ok.registrations;
      subscriptions = ok.subscriptions;
      callees = callees_stay c.sessions.list (connect c.sessions.list t) c.registrations.list (connected_taken c.sessions.list t) ok.callees;
      members = members_stay c.sessions.list (connect c.sessions.list t) c.subscriptions.list (connected_taken c.sessions.list t) ok.members;
    }
act_sound config c t (Said draw read) ok = transport_sound config c t draw read (by_transport c.sessions.list t) refl ok
act_sound config c t Hung ok = remove_sound config c t ok

one_gone_sound : (config : Config) (c : Content) (t : Transport) → IsSound config c → Keeps config (one_gone c t)
one_gone_sound config c t ok = remove_sound config c t ok

all_gone_sound : (config : Config) (ts : List Transport) (c : Content) → IsSound config c → Keeps config (all_gone ts c)
all_gone_sound config [] c ok = ok
all_gone_sound config (t ∷ ts) c ok = all_gone_sound config ts (one_gone c t).content (one_gone_sound config c t ok)

pub input_sound : EachInputKeepsSound
input_sound config c (Boot node boot) ok = all_gone_sound config (of_origin c.sessions.list node) c ok
input_sound config c (Lost node boot) ok = all_gone_sound config (of_origin c.sessions.list node) c ok
input_sound config c (Item t act) ok = act_sound config c t act ok

after_sound : (config : Config) (inputs : List (Input Act)) (c : Content) → IsSound config c
    → IsSound config (after config c inputs)
after_sound config [] c ok = ok
after_sound config (input ∷ inputs) c ok =
    after_sound config inputs (after_input config c input) (input_sound config c input ok)

pub realm_sound : EveryRealmIsSound
realm_sound config inputs = after_sound config inputs (empty config.limits) (empty_sound config)

pub open_where_room : OpensWhereRoom
open_where_room config c t draw canceling ok few same room =
    let found = free.open_where_room c.sessions t draw canceling ok (subst (λ (n : ℕ). n < 2 ^ 32) (sym same) few)
    (subst (λ (n : ℕ). session_count c.sessions.list < n) (sym same) room) in
    let named : not (bytes_eq config.name config.name) ≡ false =
    not_from_true (bytes_eq config.name config.name) ((bytes_eq-Decides config.name config.name).1 refl) in (
      found.0,
      found.1,
      found.2,
      cond-false (not (bytes_eq config.name config.name)) (stop c t no_such_realm)
          (welcomed c t (open_session c.sessions t draw canceling)) named
          ∙ ap (welcomed c t) found.3,
    )
