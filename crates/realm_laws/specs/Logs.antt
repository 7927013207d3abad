-- Laws of a realm that follows a log, over every configuration and every log (Lamport 2001, section 3: the state machine;
-- docs/CONSENSUS.md has which entries take effect).
use Rattle.std.specs.Prelude.{ℕ, List, take}
use Rattle.paxos_packets.specs.declared.entry.Entry.{Entry}
use Rattle.paxos_packets.specs.declared.transport.Transport.{Transport}
use Rattle.replica_machine.specs.Replay.{inputs, state}
use Rattle.realm_registrations.specs.Laws.{AreSoundRegistrations}
use Rattle.realm_acts.specs.declared.act.Act.{Act}
use Rattle.realm_machine.specs.Config.{Config}
use Rattle.realm_machine.specs.Content.{Content, empty}
use Rattle.realm_machine.specs.Machine.{realm_of}
use Rattle.realm_laws.specs.Trace.{Letter, trace}
use Rattle.realm_laws.specs.Laws.{IsSound, IsTrace, AreSoundOpenCalls}

-- the content that the first entries of a log lead to
abbrev pub at_prefix : Config → List (Entry Act) → ℕ → Content
at_prefix config log n = state (realm_of config) (take n log)

-- at each prefix a text and match have one registration at most, each has a callee, and one under `single` exactly one
abbrev pub RegistrationsAreSoundInLogs : Type 0
RegistrationsAreSoundInLogs = (config : Config) (log : List (Entry Act)) (n : ℕ)
    → AreSoundRegistrations (at_prefix config log n).registrations

-- and all else that every realm keeps
abbrev pub RealmIsSoundInLogs : Type 0
RealmIsSoundInLogs = (config : Config) (log : List (Entry Act)) (n : ℕ) → IsSound config (at_prefix config log n)

abbrev pub OpenCallsAreSoundInLogs : Type 0
OpenCallsAreSoundInLogs = (config : Config) (log : List (Entry Act)) (n : ℕ)
    → AreSoundOpenCalls (at_prefix config log n)

-- entry by entry over those that take effect
abbrev pub log_trace : Config → Transport → ℕ → List (Entry Act) → List Letter
log_trace config t request log = trace config t request (empty config.limits) (inputs log)

abbrev pub RepliesAnswerCallsInLogs : Type 0
RepliesAnswerCallsInLogs = (config : Config) (log : List (Entry Act)) (t : Transport) (request : ℕ)
    → IsTrace (log_trace config t request log)
