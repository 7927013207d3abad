-- How a client registers procedures and withdraws them (WAMP specification, "Registering and Unregistering", "Pattern-based
-- Registrations", "Shared Registration"; the refusals and their order are this profile's: docs/PROTOCOL.md, "The realm").
use Rattle.std.specs.Prelude.{ℕ, Result, Ok, Err}
use Rattle.wamp_ids.specs.declared.policy.Invoke.{Invoke}
use Rattle.wamp_ids.specs.declared.uri.UriFault.{UriFault}
use Rattle.wamp_ids.specs.Pattern.{PatternValue, pattern_of}
use Rattle.wamp_message_types.specs.declared.request_kind.RequestKind.TheVariants as kind
use Rattle.wamp_message_types.specs.declared.register.Register.{Register}
use Rattle.wamp_message_types.specs.declared.register.Unregister.{Unregister}
use Rattle.wamp_message_types.specs.declared.message.Message.TheVariants as message
use Rattle.realm_sessions.specs.declared.fault.RealmFault.{RealmFault}
use Rattle.realm_registrations.specs.Registrations.{Registrations, Registered, Unregistered}
use Rattle.realm_registrations.specs.Registrations as registrations
use Rattle.realm_machine.specs.Sayings.{invalid_uri}
use Rattle.realm_machine.specs.declared.requester.Requester.{Requester}
use Rattle.realm_machine.specs.Content.{Content, Step, reply, refuse, refuse_for, with_registrations}

-- the content with these registrations, and what is said to the client
abbrev pub registered : Content → Requester → ℕ → Registrations → Result ℕ RealmFault → Step
registered c requester request registrations (Ok id) =
    reply (with_registrations c registrations) requester.transport (message.Registered (record { request = request; registration = id }))
registered c requester request registrations (Err fault) = refuse_for c requester.transport kind.Register request fault

abbrev pub answer_register : Content → Requester → ℕ → Registered → Step
answer_register c requester request due = registered c requester request due.registrations due.answer

abbrev pub register_for : Content → Requester → ℕ → Invoke → Result PatternValue UriFault → Step
register_for c requester request invoke (Ok pattern) =
    answer_register c requester request (registrations.register c.registrations requester.session pattern invoke)
register_for c requester request invoke (Err fault) = refuse c requester.transport kind.Register request invalid_uri

-- a text that is no pattern with this match is refused
abbrev pub register : Content → Requester → Register → Step
register c requester asked = register_for c requester asked.request asked.invoke (pattern_of asked.procedure asked.matching)

abbrev pub unregistered : Content → Requester → ℕ → Registrations → Result (Unit {0}) RealmFault → Step
unregistered c requester request registrations (Ok done) =
    reply (with_registrations c registrations) requester.transport (message.Unregistered (record { request = request }))
unregistered c requester request registrations (Err fault) = refuse_for c requester.transport kind.Unregister request fault

abbrev pub answer_unregister : Content → Requester → ℕ → Unregistered → Step
answer_unregister c requester request due = unregistered c requester request due.registrations due.answer

abbrev pub unregister : Content → Requester → Unregister → Step
unregister c requester asked =
    answer_unregister c requester asked.request (registrations.unregister c.registrations requester.session asked.registration)
