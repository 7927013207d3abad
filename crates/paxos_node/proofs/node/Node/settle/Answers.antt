use Rattle.std.proofs.Common.{◌≡◌, suc, Result, Ok, Err, sym, subst}
use Rattle.paxos_packets.specs.declared.entry.Entries.{Entries}
use Rattle.replica_machine.specs.Roll.{HasStandings}
use Rattle.paxos_learner.specs.Learner.{run_from}
use Rattle.paxos_planning.specs.Node.{log_length}
use Rattle.paxos_planning.specs.Drafting.{Known}
use Rattle.paxos_node.specs.declared.fault.NodeFault.{NodeFault}
use Rattle.paxos_node.specs.declared.fault.NodeFault.TheVariants.{Memory}
use Rattle.paxos_node.specs.declared.outcome.Outcome.{Outcome}
use Rattle.paxos_node.specs.Applying.{standing_of}
use Rattle.paxos_node.specs.Adopting.{Settled}
use Rattle.paxos_node.specs.Outcome.{with_added}
use Rattle.paxos_node.proofs.Done.{was_done, not_undone, fault_alike, settled_done, settled_fault}
use Rattle.paxos_node.proofs.node.Node.settle.Goals as goal

pub ended-requires-clause-roll : goal.ended-requires-clause-roll
ended-requires-clause-roll g c =
    subst (λ (k : Known g.row.B.Denot). HasStandings (standing_of k.state) c.roll.result.now) (sym c.requires.of) c.roll.ensures

pub ended-requires-clause-agrees : goal.ended-requires-clause-agrees
ended-requires-clause-agrees g c = (was_done c.args.done c.in-Ok.run' c.in-Ok.ensures.memory c.in-Ok.ensures.run).2

pub ended-requires-clause-run : goal.ended-requires-clause-run
ended-requires-clause-run g c = (was_done c.args.done c.in-Ok.run' c.in-Ok.ensures.memory c.in-Ok.ensures.run).3

pub ended-requires-clause-front : goal.ended-requires-clause-front
ended-requires-clause-front g c = was_done c.args.done c.in-Ok.run' c.in-Ok.ensures.memory c.requires.front

pub returns-in-Err-clause-settled : goal.returns-in-Err-clause-settled
returns-in-Err-clause-settled g c =
    settled_fault c.args.self.now.me c.args.self.now.members c.args.self.now.state c.args.draft.of.added c.args.draft.plan c.args.done c.in-Err.fault
    (run_from (suc (log_length c.args.draft.of.state)) c.args.draft.plan.node.learner.learned) c.in-Err.ensures.run

pub returns-in-Err-clause-memory : goal.returns-in-Err-clause-memory
returns-in-Err-clause-memory g c = fault_alike (Entries g.row.B.Denot) (Outcome g.row.B.Denot) c.args.done c.in-Err.fault c.in-Err.ensures.memory

pub returns-clause-settled : goal.returns-clause-settled
returns-clause-settled g c =
    settled_done c.args.self.now.me c.args.self.now.members c.args.self.now.state c.args.draft.of.added c.args.draft.plan c.args.done c.ended.result
    (subst (λ (k : Known g.row.B.Denot). Settled k.me k.members k.state c.args.draft.plan (with_added c.args.draft.of.added c.ended.result)) c.requires.of
    c.ended.ensures.settled)

pub returns-clause-memory : goal.returns-clause-memory
returns-clause-memory g c = not_undone (◌≡◌ {A = Result (Outcome g.row.B.Denot) NodeFault} (Ok c.ended.result) (Err Memory)) c.args.done c.in-Ok.run' c.in-Ok.ensures.memory
