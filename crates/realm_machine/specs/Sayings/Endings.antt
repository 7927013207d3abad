-- What is said as sessions and transports end (WAMP specification, "Session Closing"; docs/PROTOCOL.md, "The realm").
use Rattle.std.specs.Prelude.{ℕ, List, [], ◌∷◌, ◌++◌, Option, None, Some, if◌then◌else◌}
use Rattle.paxos_packets.specs.declared.transport.Transport.{Transport}
use Rattle.wamp_ids.specs.declared.policy.Mode.TheVariants.{KillNoWait}
use Rattle.wamp_message_types.specs.declared.request_kind.RequestKind.TheVariants as kind
use Rattle.realm_sessions.specs.declared.links.Link.{Link}
use Rattle.realm_sessions.specs.Links.{announces}
use Rattle.realm_calls.specs.declared.calls.Open.{Open}
use Rattle.realm_machine.specs.declared.sayings.say.Say.{Say}
use Rattle.realm_machine.specs.Sayings.{say, shut, to_session, refusal, goodbye as goodbye_for, canceled, system_shutdown}
use Rattle.realm_machine.specs.Sayings.Invocations.{interrupt}

-- ---- calls end with a session

-- the ERROR to the caller of a call that was canceled
abbrev pub end_for_caller : List Link → Open → List Say
end_for_caller links call = to_session links call.caller (refusal kind.Call call.request canceled)

-- the INTERRUPT to its callee, if it announced call canceling
abbrev pub end_for_callee : List Link → Open → List Say
end_for_callee links call =
    if announces links call.callee then to_session links call.callee (interrupt call KillNoWait) else []

-- ---- a node is gone

-- the GOODBYE to a session that ends so
abbrev pub told_shutdown : Transport → Option ℕ → List Say
told_shutdown t None = []
told_shutdown t (Some session) = say t (goodbye_for system_shutdown) ∷ []

-- what is said to a transport of the node, which had this session, or none, or was not connected
abbrev pub farewell : Transport → Option (Option ℕ) → List Say
farewell t None = []
farewell t (Some session) = told_shutdown t session ++ shut t ∷ []
