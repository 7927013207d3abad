-- Every input to a realm of which each connected transport passes a test: each does after it, and it speaks to such transports alone.
use Rattle.std.proofs.Common.{◌≡◌, ℕ, Bool, true, false, Option, None, Some}
use Rattle.std.proofs.lemmas.Bool.{cond_both}
use Rattle.paxos_packets.specs.declared.transport.Transport.{Transport}
use Rattle.wamp_ids.specs.Pattern.{pattern_of}
use Rattle.wamp_values.specs.declared.args.Args.TheVariants.{Nothing}
use Rattle.wamp_message_types.specs.declared.request_kind.RequestKind.{RequestKind}
use Rattle.wamp_message_types.specs.declared.request_kind.RequestKind.TheVariants as kind
use Rattle.wamp_message_types.specs.declared.error.Error as error
use Rattle.wamp_message_types.specs.declared.message.Message.{Message}
use Rattle.wamp_message_types.specs.declared.message.Message.TheVariants.{Hello, Abort, Goodbye, Error, Publish, Subscribe}
use Rattle.wamp_message_types.specs.declared.message.Message.TheVariants.{Unsubscribe, Register, Unregister}
use Rattle.wamp_message_types.specs.declared.message.Message.TheVariants.{Call, Cancel, Yield}
use Rattle.wamp_message_types.specs.declared.read_result.UnfitKind.{UnfitKind}
use Rattle.wamp_message_types.specs.declared.read_result.UnfitKind.TheVariants as unfit
use Rattle.wamp_message_types.specs.declared.read_result.Read.{Read}
use Rattle.wamp_message_types.specs.declared.read_result.Read.TheVariants.{Good, Unfit, Bad}
use Rattle.realm_acts.specs.declared.act.Act.{Act}
use Rattle.realm_acts.specs.declared.act.Act.TheVariants.{Connect, Said, Hung}
use Rattle.replica_machine.specs.declared.input.Input.{Input}
use Rattle.replica_machine.specs.declared.input.Input.TheVariants.{Boot, Lost, Item}
use Rattle.realm_sessions.specs.Links.{by_transport, of_origin, connect}
use Rattle.realm_calls.specs.Calls as calls
use Rattle.realm_machine.specs.Sayings.{invalid_argument}
use Rattle.realm_machine.specs.Sayings.Invocations.{failure}
use Rattle.realm_machine.specs.declared.requester.Requester.{Requester}
use Rattle.realm_machine.specs.Config.{Config}
use Rattle.realm_machine.specs.Content.{Content, with_links}
use Rattle.realm_machine.specs.Leaving.{violation}
use Rattle.realm_machine.specs.Step.{refuse_unless, on_unfit, on_error, on_request, on_opening, on_message, on_read, on_transport, on_act}
use Rattle.realm_machine.specs.Step.{step}
use Rattle.realm_laws.proofs.Known.{connected_of, origin_of}
use Rattle.realm_laws.proofs.Minding.{Knows, Minds, quiet_minds, reply_minds, remove_minds, violation_minds, aborted_minds, goodbye_minds}
use Rattle.realm_laws.proofs.Minding.{all_gone_minds, open_minds, subscribe_minds, unsubscribe_minds, publish_minds, register_minds}
use Rattle.realm_laws.proofs.Minding.{unregister_minds, call_minds, cancel_minds, answer_minds, yield_minds}

unless_minds : (P : Transport → Bool) (c : Content) (r : Requester) (k : RequestKind) (request : ℕ) (is_quiet : Bool)
    → P r.transport ≡ true → Knows P c → Minds P (refuse_unless c r k request is_quiet)
unless_minds P c r k request true own it = quiet_minds P c it
unless_minds P c r k request false own it = reply_minds P c r.transport _ own it

unfit_minds : (P : Transport → Bool) (c : Content) (r : Requester) (k : UnfitKind) (request : ℕ) (is_quiet : Bool) → P r.transport ≡ true
    → Knows P c → Minds P (on_unfit c r k request is_quiet)
unfit_minds P c r unfit.Publish request is_quiet own it = unless_minds P c r kind.Publish request is_quiet own it
unfit_minds P c r unfit.Subscribe request is_quiet own it = unless_minds P c r kind.Subscribe request is_quiet own it
unfit_minds P c r unfit.Register request is_quiet own it = unless_minds P c r kind.Register request is_quiet own it
unfit_minds P c r unfit.Call request is_quiet own it =
    cond_both (calls.has c.calls.list r.session request) (violation c r.transport) (refuse_unless c r kind.Call request is_quiet) (Minds P)
    (λ _. violation_minds P c r.transport own it) (λ _. unless_minds P c r kind.Call request is_quiet own it)
unfit_minds P c r unfit.Cancel request is_quiet own it = unless_minds P c r kind.Cancel request is_quiet own it
unfit_minds P c r unfit.Yield request is_quiet own it = answer_minds P c r.session request (failure invalid_argument Nothing) it

error_minds : (P : Transport → Bool) (c : Content) (r : Requester) (k : RequestKind) (asked : error.Error) → P r.transport ≡ true
    → Knows P c → Minds P (on_error c r k asked)
error_minds P c r kind.Invocation asked own it = answer_minds P c r.session asked.request (failure asked.error asked.args) it
error_minds P c r k asked own it = violation_minds P c r.transport own it

request_minds : (P : Transport → Bool) (config : Config) (c : Content) (r : Requester) (message : Message) → P r.transport ≡ true
    → Knows P c → Minds P (on_request config c r message)
request_minds P config c r (Abort asked) own it = aborted_minds P c r.transport own it
request_minds P config c r (Goodbye asked) own it = goodbye_minds P c r.transport own it
request_minds P config c r (Error asked) own it = error_minds P c r asked.kind asked own it
request_minds P config c r (Publish asked) own it = publish_minds P c r asked own it
request_minds P config c r (Subscribe asked) own it =
    subscribe_minds P c r asked.request (pattern_of asked.topic asked.matching) own it
request_minds P config c r (Unsubscribe asked) own it = unsubscribe_minds P c r asked own it
request_minds P config c r (Register asked) own it =
    register_minds P c r asked.request asked.invoke (pattern_of asked.procedure asked.matching) own it
request_minds P config c r (Unregister asked) own it = unregister_minds P c r asked own it
request_minds P config c r (Call asked) own it = call_minds P c r asked own it
request_minds P config c r (Cancel asked) own it =
    cancel_minds P c r asked.mode (calls.call_of c.calls.list r.session asked.request) own it
request_minds P config c r (Yield asked) own it = yield_minds P c r asked it
request_minds P config c r message own it = violation_minds P c r.transport own it

opening_minds : (P : Transport → Bool) (config : Config) (c : Content) (t : Transport) (draw : ℕ) (message : Message) → P t ≡ true
    → Knows P c → Minds P (on_opening config c t draw message)
opening_minds P config c t draw (Hello hello) own it = open_minds P config c t draw hello own it
opening_minds P config c t draw (Abort reason) own it = aborted_minds P c t own it
opening_minds P config c t draw message own it = violation_minds P c t own it

message_minds : (P : Transport → Bool) (config : Config) (c : Content) (t : Transport) (session : Option ℕ) (draw : ℕ) (message : Message)
    → P t ≡ true → Knows P c → Minds P (on_message config c t session draw message)
message_minds P config c t None draw message own it = opening_minds P config c t draw message own it
message_minds P config c t (Some session) draw message own it =
    request_minds P config c (record { transport = t; session = session; draw = draw }) message own it

read_minds : (P : Transport → Bool) (config : Config) (c : Content) (t : Transport) (session : Option ℕ) (draw : ℕ) (read : Read)
    → P t ≡ true → Knows P c → Minds P (on_read config c t session draw read)
read_minds P config c t session draw (Good message) own it = message_minds P config c t session draw message own it
read_minds P config c t None draw (Unfit k request is_quiet) own it = violation_minds P c t own it
read_minds P config c t (Some session) draw (Unfit k request is_quiet) own it =
    unfit_minds P c (record { transport = t; session = session; draw = draw }) k request is_quiet own it
read_minds P config c t session draw (Bad fault) own it = violation_minds P c t own it

transport_minds : (P : Transport → Bool) (config : Config) (c : Content) (t : Transport) (draw : ℕ) (read : Read)
    (session : Option (Option ℕ)) → P t ≡ true → Knows P c → Minds P (on_transport config c t draw read session)
transport_minds P config c t draw read None own it = quiet_minds P c it
transport_minds P config c t draw read (Some session) own it = read_minds P config c t session draw read own it

act_minds : (P : Transport → Bool) (config : Config) (c : Content) (t : Transport) (act : Act) → P t ≡ true → Knows P c
    → Minds P (on_act config c t act)
act_minds P config c t Connect own it =
    quiet_minds P (with_links c (connect c.sessions.list t))
    (record {
      links = connected_of P c.sessions.list t own it.links;
      registrations = it.registrations;
      subscriptions = it.subscriptions;
    })
act_minds P config c t (Said draw read) own it = transport_minds P config c t draw read (by_transport c.sessions.list t) own it
act_minds P config c t Hung own it = remove_minds P c t it

-- an Item's transport passes the test
abbrev pub IsOf : (Transport → Bool) → Input Act → Type 0
IsOf P (Boot node boot) = Unit {0}
IsOf P (Lost node boot) = Unit {0}
IsOf P (Item t act) = P t ≡ true

pub input_minds : (P : Transport → Bool) (config : Config) (c : Content) (input : Input Act) → IsOf P input → Knows P c
    → Minds P (step config c input)
input_minds P config c (Boot node boot) own it =
    all_gone_minds P (of_origin c.sessions.list node) c (origin_of P c.sessions.list node it.links) it
input_minds P config c (Lost node boot) own it =
    all_gone_minds P (of_origin c.sessions.list node) c (origin_of P c.sessions.list node it.links) it
input_minds P config c (Item t act) own it = act_minds P config c t act own it
