-- A message's value has held numbers and ordered keys, and nests no deeper than JSON is read.
use Rattle.std.proofs.Common.{ℕ, ◌<◌, ◌≤◌, ◌^◌, Bool, true, false, List, Option, codes, refl, arith}
use Rattle.std.specs.List.Sorted.{IsStrictlySortedBy}
use Rattle.serde_json.specs.Data.{depth}
use Rattle.serde_json.specs.Read.{max_depth}
use Rattle.wamp_ids.specs.declared.policy.Match.{Match}
use Rattle.wamp_ids.specs.declared.policy.Match.TheVariants.{Exact, Prefix, Wildcard}
use Rattle.wamp_ids.specs.declared.policy.Invoke.{Invoke}
use Rattle.wamp_ids.specs.declared.policy.Invoke.TheVariants.{Single, First, Last, RoundRobin}
use Rattle.wamp_ids.specs.declared.policy.Mode.{Mode}
use Rattle.wamp_ids.specs.declared.policy.Mode.TheVariants.{Skip, Kill, KillNoWait}
use Rattle.wamp_values.specs.Payload.{IsPlain}
use Rattle.wamp_values.proofs.Plain.{args_are_plain, args_nest}
use Rattle.wamp_message_types.specs.declared.request_kind.RequestKind.{RequestKind}
use Rattle.wamp_message_types.specs.declared.request_kind.RequestKind.TheVariants as kind
use Rattle.wamp_message_types.specs.RequestKind.{code_of}
use Rattle.wamp_message_layouts.specs.Parts.{nothing, dictionary_of, IsToldId}
use Rattle.wamp_message_layouts.proofs.Told.{AreSmall, told_is_plain, told_nests, flag_is_small, id_is_small, text_is_small}
use Rattle.wamp_message_types.specs.declared.message.Message.{Message}
use Rattle.wamp_message_types.specs.declared.message.Message.TheVariants.{Hello, Welcome, Abort, Goodbye, Error, Publish, Published}
use Rattle.wamp_message_types.specs.declared.message.Message.TheVariants.{Subscribe, Subscribed, Event, Unsubscribe, Unsubscribed}
use Rattle.wamp_message_types.specs.declared.message.Message.TheVariants.{Register, Registered, Unregister, Unregistered}
use Rattle.wamp_message_types.specs.declared.message.Message.TheVariants.{Call, Cancel, CallResult, Invocation, Interrupt, Yield}
use Rattle.wamp_messages.specs.Session.{hello_details, welcome_details, broker, dealer}
use Rattle.wamp_messages.specs.Publish.{publish_options, event_told}
use Rattle.wamp_messages.specs.Subscribe.{match_options}
use Rattle.wamp_messages.specs.Register.{shared_options, register_options}
use Rattle.wamp_messages.specs.Call.{mode_options, cancel_options, call_told, progress_told, invocation_told}
use Rattle.wamp_messages.specs.Writing.{value_of}
use Rattle.wamp_messages.specs.Message.{IsId, HasParts}

id_is_held : (n : ℕ) → IsId n → n < 2 ^ 64
id_is_held n h = grind (arith, h)

nothing_is_plain : IsPlain nothing
unfolding IsStrictlySortedBy
nothing_is_plain = (tt, tt)

hello_is_plain : (canceling : Bool) → IsPlain (hello_details canceling)
unfolding IsStrictlySortedBy
hello_is_plain false = (tt, tt)
hello_is_plain true = ((tt, tt), (((tt, tt), (((tt, tt), (((tt, tt), (tt, tt)), tt)), tt)), tt))

broker_is_plain : IsPlain broker
unfolding IsStrictlySortedBy
broker_is_plain = ((tt, tt), ((((refl, tt), (tt, tt)), (tt, (tt, tt))), tt))

dealer_is_plain : IsPlain dealer
unfolding IsStrictlySortedBy
dealer_is_plain = (
  (tt, tt),
  (
    (
      ((refl, (refl, (refl, (refl, tt)))), ((refl, (refl, (refl, tt))), ((refl, (refl, tt)), ((refl, tt), (tt, tt))))),
      (tt, (tt, (tt, (tt, (tt, tt))))),
    ),
    tt,
  ),
)

welcome_is_plain : IsPlain welcome_details
unfolding IsStrictlySortedBy
welcome_is_plain = ((tt, tt), ((((refl, tt), (tt, tt)), (broker_is_plain, (dealer_is_plain, tt))), tt))

publish_is_plain : (acknowledge exclude_me : Bool) → IsPlain (publish_options acknowledge exclude_me)
unfolding IsStrictlySortedBy
publish_is_plain false false = ((tt, tt), (tt, tt))
publish_is_plain false true = (tt, tt)
publish_is_plain true false = (((refl, tt), (tt, tt)), (tt, (tt, tt)))
publish_is_plain true true = ((tt, tt), (tt, tt))

match_is_plain : (matching : Match) → IsPlain (match_options matching)
unfolding IsStrictlySortedBy
match_is_plain Exact = (tt, tt)
match_is_plain Prefix = ((tt, tt), (tt, tt))
match_is_plain Wildcard = ((tt, tt), (tt, tt))

-- ---- dictionaries of several keys, which are in order

event_small : (topic : Option (List ℕ)) → AreSmall (event_told topic)
event_small topic = (text_is_small topic, tt)

call_small : (disclose_me receive_progress : Bool) → AreSmall (call_told disclose_me receive_progress)
call_small disclose_me receive_progress = (flag_is_small disclose_me, (flag_is_small receive_progress, tt))

progress_small : (progress : Bool) → AreSmall (progress_told progress)
progress_small progress = (flag_is_small progress, tt)

invocation_small : (caller : Option ℕ) (procedure : Option (List ℕ)) (receive_progress : Bool) → IsToldId caller
    → AreSmall (invocation_told caller procedure receive_progress)
invocation_small caller procedure receive_progress h =
    (id_is_small caller h, (text_is_small procedure, (flag_is_small receive_progress, tt)))

event_is_plain : (topic : Option (List ℕ)) → IsPlain (dictionary_of (event_told topic))
unfolding IsStrictlySortedBy
event_is_plain topic = told_is_plain (event_told topic) (tt, tt) (event_small topic)

call_is_plain : (disclose_me receive_progress : Bool) → IsPlain (dictionary_of (call_told disclose_me receive_progress))
unfolding IsStrictlySortedBy
call_is_plain disclose_me receive_progress =
    told_is_plain (call_told disclose_me receive_progress) ((refl, tt), (tt, tt)) (call_small disclose_me receive_progress)

progress_is_plain : (progress : Bool) → IsPlain (dictionary_of (progress_told progress))
unfolding IsStrictlySortedBy
progress_is_plain progress = told_is_plain (progress_told progress) (tt, tt) (progress_small progress)

invocation_is_plain : (caller : Option ℕ) (procedure : Option (List ℕ)) (receive_progress : Bool) → IsToldId caller
    → IsPlain (dictionary_of (invocation_told caller procedure receive_progress))
unfolding IsStrictlySortedBy
invocation_is_plain caller procedure receive_progress h =
    told_is_plain (invocation_told caller procedure receive_progress) ((refl, (refl, tt)), ((refl, tt), (tt, tt)))
    (invocation_small caller procedure receive_progress h)

shared_is_plain : (invoke : List ℕ) (matching : Match) → IsPlain (shared_options invoke matching)
unfolding IsStrictlySortedBy
shared_is_plain invoke Exact = ((tt, tt), (tt, tt))
shared_is_plain invoke Prefix = (((refl, tt), (tt, tt)), (tt, (tt, tt)))
shared_is_plain invoke Wildcard = (((refl, tt), (tt, tt)), (tt, (tt, tt)))

register_is_plain : (invoke : Invoke) (matching : Match) → IsPlain (register_options invoke matching)
register_is_plain Single matching = match_is_plain matching
register_is_plain First matching = shared_is_plain (codes "first") matching
register_is_plain Last matching = shared_is_plain (codes "last") matching
register_is_plain RoundRobin matching = shared_is_plain (codes "roundrobin") matching

mode_is_plain : (mode : Mode) → IsPlain (mode_options mode)
unfolding IsStrictlySortedBy
mode_is_plain Skip = ((tt, tt), (tt, tt))
mode_is_plain Kill = ((tt, tt), (tt, tt))
mode_is_plain KillNoWait = ((tt, tt), (tt, tt))

cancel_is_plain : (mode : Mode) → IsPlain (cancel_options mode)
cancel_is_plain Skip = mode_is_plain Skip
cancel_is_plain Kill = mode_is_plain Kill
cancel_is_plain KillNoWait = nothing_is_plain

code_is_held : (k : RequestKind) → code_of k < 2 ^ 64
code_is_held kind.Publish = omega arith
code_is_held kind.Subscribe = omega arith
code_is_held kind.Unsubscribe = omega arith
code_is_held kind.Call = omega arith
code_is_held kind.Cancel = omega arith
code_is_held kind.Register = omega arith
code_is_held kind.Unregister = omega arith
code_is_held kind.Invocation = omega arith

pub value_is_plain : (m : Message) → HasParts m → IsPlain (value_of m)
value_is_plain (Hello hello) h = (omega arith, (tt, (hello_is_plain hello.canceling, tt)))
value_is_plain (Welcome welcome) h = (omega arith, (id_is_held welcome.session h, (welcome_is_plain, tt)))
value_is_plain (Abort abort) h = (omega arith, (nothing_is_plain, (tt, args_are_plain abort.args h)))
value_is_plain (Goodbye goodbye) h = (omega arith, (nothing_is_plain, (tt, tt)))
value_is_plain (Error error) h = (
  omega arith,
  (code_is_held error.kind, (id_is_held error.request h.0, (nothing_is_plain, (tt, args_are_plain error.args h.1)))),
)
value_is_plain (Publish publish) h = (
  omega arith,
  (
    id_is_held publish.request h.0,
    (publish_is_plain publish.acknowledge publish.exclude_me, (tt, args_are_plain publish.args h.1)),
  ),
)
value_is_plain (Published published) h =
    (omega arith, (id_is_held published.request h.0, (id_is_held published.publication h.1, tt)))
value_is_plain (Subscribe subscribe) h =
    (omega arith, (id_is_held subscribe.request h, (match_is_plain subscribe.matching, (tt, tt))))
value_is_plain (Subscribed subscribed) h =
    (omega arith, (id_is_held subscribed.request h.0, (id_is_held subscribed.subscription h.1, tt)))
value_is_plain (Event event) h = (
  omega arith,
  (
    id_is_held event.subscription h.0,
    (id_is_held event.publication h.1.0, (event_is_plain event.topic, args_are_plain event.args h.1.1)),
  ),
)
value_is_plain (Unsubscribe unsubscribe) h =
    (omega arith, (id_is_held unsubscribe.request h.0, (id_is_held unsubscribe.subscription h.1, tt)))
value_is_plain (Unsubscribed unsubscribed) h = (omega arith, (id_is_held unsubscribed.request h, tt))
value_is_plain (Register register) h =
    (omega arith, (id_is_held register.request h, (register_is_plain register.invoke register.matching, (tt, tt))))
value_is_plain (Registered registered) h =
    (omega arith, (id_is_held registered.request h.0, (id_is_held registered.registration h.1, tt)))
value_is_plain (Unregister unregister) h =
    (omega arith, (id_is_held unregister.request h.0, (id_is_held unregister.registration h.1, tt)))
value_is_plain (Unregistered unregistered) h = (omega arith, (id_is_held unregistered.request h, tt))
value_is_plain (Call call) h =
    (omega arith, (id_is_held call.request h.0, (call_is_plain call.disclose_me call.receive_progress, (tt, args_are_plain call.args h.1))))
value_is_plain (Cancel cancel) h = (omega arith, (id_is_held cancel.request h, (cancel_is_plain cancel.mode, tt)))
value_is_plain (CallResult reply) h =
    (omega arith, (id_is_held reply.request h.0, (progress_is_plain reply.progress, args_are_plain reply.args h.1)))
value_is_plain (Invocation invocation) h = (
  omega arith,
  (
    id_is_held invocation.request h.0,
    (
      id_is_held invocation.registration h.1.0,
      (
        invocation_is_plain invocation.caller invocation.procedure invocation.receive_progress h.1.1.0,
        args_are_plain invocation.args h.1.1.1,
      ),
    ),
  ),
)
value_is_plain (Interrupt interrupt) h = (omega arith, (id_is_held interrupt.request h, (mode_is_plain interrupt.mode, tt)))
value_is_plain (Yield yielded) h =
    (omega arith, (id_is_held yielded.request h.0, (progress_is_plain yielded.progress, args_are_plain yielded.args h.1)))

-- ---- how deep it nests

hello_nests : (canceling : Bool) → depth (hello_details canceling) ≤ 4
hello_nests false = omega arith
hello_nests true = omega arith

publish_nests : (acknowledge exclude_me : Bool) → depth (publish_options acknowledge exclude_me) ≤ 1
publish_nests false false = omega arith
publish_nests false true = omega arith
publish_nests true false = omega arith
publish_nests true true = omega arith

match_nests : (matching : Match) → depth (match_options matching) ≤ 1
match_nests Exact = omega arith
match_nests Prefix = omega arith
match_nests Wildcard = omega arith

shared_nests : (invoke : List ℕ) (matching : Match) → depth (shared_options invoke matching) ≤ 1
shared_nests invoke Exact = omega arith
shared_nests invoke Prefix = omega arith
shared_nests invoke Wildcard = omega arith

register_nests : (invoke : Invoke) (matching : Match) → depth (register_options invoke matching) ≤ 1
register_nests Single matching = match_nests matching
register_nests First matching = shared_nests (codes "first") matching
register_nests Last matching = shared_nests (codes "last") matching
register_nests RoundRobin matching = shared_nests (codes "roundrobin") matching

mode_nests : (mode : Mode) → depth (mode_options mode) ≤ 1
mode_nests Skip = omega arith
mode_nests Kill = omega arith
mode_nests KillNoWait = omega arith

cancel_nests : (mode : Mode) → depth (cancel_options mode) ≤ 1
cancel_nests Skip = omega arith
cancel_nests Kill = omega arith
cancel_nests KillNoWait = omega arith

pub value_nests : (m : Message) → HasParts m → depth (value_of m) ≤ max_depth
value_nests (Hello hello) h = omega (arith, hello_nests hello.canceling)
value_nests (Welcome welcome) h = omega arith
value_nests (Abort abort) h = omega (arith, args_nest abort.args h)
value_nests (Goodbye goodbye) h = omega arith
value_nests (Error error) h = omega (arith, args_nest error.args h.1)
value_nests (Publish publish) h = omega (arith, args_nest publish.args h.1, publish_nests publish.acknowledge publish.exclude_me)
value_nests (Published published) h = omega arith
value_nests (Subscribe subscribe) h = omega (arith, match_nests subscribe.matching)
value_nests (Subscribed subscribed) h = omega arith
value_nests (Event event) h = omega (arith, args_nest event.args h.1.1, told_nests (event_told event.topic) (event_small event.topic))
value_nests (Unsubscribe unsubscribe) h = omega arith
value_nests (Unsubscribed unsubscribed) h = omega arith
value_nests (Register register) h = omega (arith, register_nests register.invoke register.matching)
value_nests (Registered registered) h = omega arith
value_nests (Unregister unregister) h = omega arith
value_nests (Unregistered unregistered) h = omega arith
value_nests (Call call) h =
    omega (
      arith,
      args_nest call.args h.1,
      told_nests (call_told call.disclose_me call.receive_progress)
          (call_small call.disclose_me call.receive_progress),
    )
value_nests (Cancel cancel) h = omega (arith, cancel_nests cancel.mode)
value_nests (CallResult reply) h =
    omega (arith, args_nest reply.args h.1, told_nests (progress_told reply.progress) (progress_small reply.progress))
value_nests (Invocation invocation) h =
    omega (
      arith,
      args_nest invocation.args h.1.1.1,
      told_nests
          (invocation_told invocation.caller invocation.procedure invocation.receive_progress)
          (invocation_small invocation.caller invocation.procedure invocation.receive_progress h.1.1.0),
    )
value_nests (Interrupt interrupt) h = omega (arith, mode_nests interrupt.mode)
value_nests (Yield yielded) h =
    omega (arith, args_nest yielded.args h.1, told_nests (progress_told yielded.progress) (progress_small yielded.progress))
