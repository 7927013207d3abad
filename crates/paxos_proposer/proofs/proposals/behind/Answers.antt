use Rattle.std.proofs.Common.{◌-◌, ◌∙◌, ap}
use Rattle.paxos_proposer.proofs.InTurn.{tail_of}
use Rattle.paxos_proposer.proofs.proposals.behind.Goals as goal

pub returns : goal.returns
returns g c =
    tail_of c.args.applied c.saturating_sub-passed.result c.min.result c.in-Some.first.now _ c.in-Some.ensures.value
    (c.saturating_sub-passed.ensures ∙ ap (λ s. c.args.applied - (s - 1)) c.get.ensures.value) c.min.ensures c.requires
