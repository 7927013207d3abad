use Rattle.std.proofs.Common.{◌≤◌, ℕ, suc, [], ◌∷◌, ap, sym, ◌∙◌, subst}
use Rattle.paxos_packets.specs.Snapshot.{Snapshot}
use Rattle.paxos_proposer.specs.declared.moves.Move.TheVariants.{Raised}
use Rattle.paxos_learner.specs.Learner.{run_from}
use Rattle.paxos_planning.specs.Node.{log_length}
use Rattle.paxos_planning.specs.Plan.{begun}
use Rattle.paxos_node.specs.Adopting.{Settled}
use Rattle.paxos_node.specs.Snapshots.{rest_on}
use Rattle.paxos_node.proofs.node.Node.plan_rest.Goals as goal

pub rested-requires-clause-more : goal.rested-requires-clause-more
rested-requires-clause-more g c =
    subst (λ (s : Snapshot). log_length c.args.self.now.state ≤ s.floor) (sym c.in-Ok.ensures) c.requires.more

pub rested-requires-clause-moves : goal.rested-requires-clause-moves
rested-requires-clause-moves g c =
    c.in-Ok-raised.ensures ∙ ap (λ (n : ℕ). Raised n ∷ []) (c.floor.ensures ∙ ap (λ (s : Snapshot). s.floor) (sym c.in-Ok.ensures))

pub rested-requires-clause-run : goal.rested-requires-clause-run
rested-requires-clause-run g c =
    c.in-Ok-run_after.ensures
    ∙ ap (λ (n : ℕ). run_from (suc n) c.args.self.now.state.learner.learned)
    (c.at.ensures ∙ c.floor-2.ensures ∙ ap (λ (s : Snapshot). s.floor) (sym c.in-Ok.ensures))

pub returns-clause-planned : goal.returns-clause-planned
returns-clause-planned g c =
    subst (λ (s : Snapshot). Settled c.args.self.now.me c.args.self.now.members c.args.self.now.state (rest_on c.args.over s (begun c.args.self.now.state))
    c.rested.result) c.in-Ok.ensures c.rested.ensures.settled
