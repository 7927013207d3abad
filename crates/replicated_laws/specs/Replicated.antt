-- A realm that all nodes of a cluster follow (docs/PROTOCOL.md, "The realm"; docs/CONSENSUS.md, "What holds over every list of events").
use Rattle.std.specs.Prelude.{◌≡◌, ℕ, suc, false, Some, ◌++◌, slice_get}
use Rattle.paxos_packets.specs.declared.transport.Transport.{Transport}
use Rattle.replica_follower.specs.Following.{Followed}
use Rattle.replica_machine.specs.Replay.{state, said}
use Rattle.realm_registrations.specs.Laws.{AreSoundRegistrations}
use Rattle.realm_acts.specs.declared.act.Act.{Act}
use Rattle.realm_machine.specs.declared.sayings.say.Say.{Say}
use Rattle.realm_machine.specs.Config.{Config}
use Rattle.realm_machine.specs.Machine.{realm_of, live_of}
use Rattle.realm_machine.specs.Realm.{State}
use Rattle.realm_laws.specs.Laws.{IsSound, IsTrace, AreSoundOpenCalls}
use Rattle.realm_laws.specs.Logs.{at_prefix, log_trace}
use Rattle.cluster_world.specs.Answers.{IsPresent}
use Rattle.cluster_world.specs.StandsAt.{Held, HasLog, handed_in, under_at}
use Rattle.cluster_world.specs.World.{World, node_at, log_of}

-- a world in code whose machines are realms
abbrev pub Realms : Type 0
Realms = Held Act State Say

-- at each prefix of each node's whole log: a text and match have one registration at most, each has a callee, and one under `single` exactly
-- one; all else that every realm keeps; and what its open calls keep
pub record AreSoundAlongLogs (v : World Act) : Type 0 where
  pub registrations : (config : Config) (node n : ℕ) → AreSoundRegistrations (at_prefix config (log_of v node) n).registrations
  pub realm : (config : Config) (node n : ℕ) → IsSound config (at_prefix config (log_of v node) n)
  pub calls : (config : Config) (node n : ℕ) → AreSoundOpenCalls (at_prefix config (log_of v node) n)

-- final replies answer calls along each node's whole log
abbrev pub RepliesAnswerCallsAlongLogs : World Act → Type 0
RepliesAnswerCallsAlongLogs v =
    (config : Config) (node : ℕ) (t : Transport) (request : ℕ) → IsTrace (log_trace config t request (log_of v node))

-- each realm that has not been given up is the written one after the log that it has applied: what its node's snapshot stands for, and then
-- entries that are its node's while that is up
abbrev pub RealmsFollow : Config → Realms → World Act → Type 0
RealmsFollow config w v =
    (i : ℕ) (f : Followed Act State Say) → slice_get w.machines i ≡ Some f → f.given_up ≡ false
    → (live_of f.log.machine ≡ record { config = config; content = state (realm_of config) (under_at v (suc i) ++ f.log.applied) })
    × HasLog (node_at w.nodes (suc i)) f

-- a transport of the present boot of a node that is up was handed what the written realm says to it along the node's whole log
abbrev pub AnswersAreOfRealms : Config → Realms → World Act → Type 0
AnswersAreOfRealms config w v =
    (t : Transport) → IsPresent t (node_at w.nodes t.node) → handed_in w t ≡ said (realm_of config) t (log_of v t.node)
