-- What is left after `retain` is what its test keeps.
use Rattle.std.proofs.Common.{rules, List, Bool}
use Rattle.std.specs.Prelude.{nat_lt}
use Rattle.std.proofs.lemmas.Map.Made.{filter_same_pairs}
use Rattle.paxos_learner.specs.declared.tallies.SlotBallot.{SlotBallot}
use Rattle.paxos_learner.proofs.tallies.Tallies.forget.Goals as goal

pub returns-clause-heard : goal.returns-clause-heard
returns-clause-heard c =
    rw (← c.self.view_is)
    (filter_same_pairs _ (λ (t : SlotBallot × List Bool). nat_lt c.args.floor t.0.slot) _ (λ k v b w f' t. search rules) c.self.inside.table.entries _
    c.retain.ensures.filtered)
