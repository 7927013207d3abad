use Rattle.std.proofs.Common.{◌≡◌, None, sym, ap, ◌∙◌, rules}
use Rattle.std.proofs.lemmas.Result.{on_ok_weaker}
use Rattle.paxos_learner.specs.Learner.{learned_at, put_learned}
use Rattle.paxos_learner.proofs.Counting.{learn_known, learn_new}
use Rattle.paxos_learner.proofs.learner.learn.Goals as goal

pub returns-then-same-clause-ok : goal.returns-then-same-clause-ok
returns-then-same-clause-ok g c = learn_known c.args.slot c.args.entry.now c.in-Some.known.now c.args.learned.now.learned c.in-Some.ensures

pub returns-clause-ok : goal.returns-clause-ok
returns-clause-ok g c =
    let none : learned_at c.args.slot c.args.learned.now.learned ≡ None = search rules in
    on_ok_weaker c.put.result
    (λ (e : c.put.new.self.learned ≡ put_learned (record { slot = c.args.slot; entry = c.in-Ok.copy }) c.args.learned.now.learned).
    e ∙ ap (λ x. put_learned (record { slot = c.args.slot; entry = x }) c.args.learned.now.learned) c.in-Ok.ensures
    ∙ learn_new c.args.slot c.args.entry.now c.args.learned.now.learned (sym none)) c.put.ensures.ok

pub returns-in-Some-clause-ok : goal.returns-in-Some-clause-ok
returns-in-Some-clause-ok g c = search rules

pub returns-in-Some-clause-disagree : goal.returns-in-Some-clause-disagree
returns-in-Some-clause-disagree g c = search rules
