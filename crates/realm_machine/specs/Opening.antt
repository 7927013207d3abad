-- How a client opens a session (WAMP specification, "Session Establishment"; the refusals and their order are this profile's:
-- docs/PROTOCOL.md, "The realm").
use Rattle.std.specs.Prelude.{ℕ, not, Result, Ok, Err, bytes_eq, if◌then◌else◌}
use Rattle.paxos_packets.specs.declared.transport.Transport.{Transport}
use Rattle.wamp_message_types.specs.declared.session.Hello.{Hello}
use Rattle.wamp_message_types.specs.declared.message.Message.TheVariants.{Welcome}
use Rattle.realm_sessions.specs.declared.fault.RealmFault.{RealmFault}
use Rattle.realm_sessions.specs.Sessions.{Sessions, Opened, open_session}
use Rattle.realm_machine.specs.Sayings.{limit, no_such_realm}
use Rattle.realm_machine.specs.Config.{Config}
use Rattle.realm_machine.specs.Content.{Content, Step, reply}
use Rattle.realm_machine.specs.Leaving.{stop}

-- the content with these sessions, and what is said to the client; a session is refused only for the limit
abbrev pub welcome : Content → Transport → Sessions → Result ℕ RealmFault → Step
welcome c t sessions (Ok id) = reply (record c { sessions = sessions }) t (Welcome (record { session = id }))
welcome c t sessions (Err fault) = stop c t limit

abbrev pub welcomed : Content → Transport → Opened → Step
welcomed c t opened = welcome c t opened.sessions opened.answer

-- at a transport without a session
abbrev pub open_at : Config → Content → Transport → ℕ → Hello → Step
open_at config c t draw hello =
    if not (bytes_eq hello.realm config.name) then stop c t no_such_realm
    else welcomed c t (open_session c.sessions t draw hello.canceling)
