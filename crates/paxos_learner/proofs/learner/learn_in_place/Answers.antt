use Rattle.std.proofs.Common.{◌≡◌, None, sym, ◌∙◌, rules}
use Rattle.paxos_learner.specs.Learner.{learned_at}
use Rattle.paxos_learner.proofs.Counting.{learn_known, learn_new}
use Rattle.paxos_learner.proofs.learner.learn_in_place.Goals as goal

pub returns-in-Some-clause-learned : goal.returns-in-Some-clause-learned
returns-in-Some-clause-learned g c =
    learn_known c.args.slot c.args.entry c.in-Some._known.now c.args.learned.now.learned c.in-Some.ensures

pub returns-clause-learned : goal.returns-clause-learned
returns-clause-learned g c =
    let none : learned_at c.args.slot c.args.learned.now.learned ≡ None = search rules in
    c.put_in_place.ensures.learned ∙ learn_new c.args.slot c.args.entry c.args.learned.now.learned (sym none)
