use Rattle.std.proofs.Common.{◌≡◌, true, false}
use Rattle.paxos_learner.specs.Hearing.{after}
use Rattle.paxos_learner.proofs.Rising.{none_outside}
use Rattle.paxos_learner.proofs.hearing.Hearing.learned_in.Goals as goal

pub returns-in-None : goal.returns-in-None
returns-in-None g c = none_outside (after c.args.self.now).learner.floor c.args.number (after c.args.self.now).learner.learned c.ascends.ensures
    (λ h. absurd (let k : false ≡ true = c.in-None.ensures.valid.1 h in cc))
