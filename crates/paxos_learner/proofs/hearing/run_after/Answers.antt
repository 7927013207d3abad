use Rattle.std.proofs.Common.{◌≡◌, ◌+◌, ◌<◌, None, ◌∙◌, ap, sym, arith, option_copied}
use Rattle.paxos_learner.specs.Hearing.{after}
use Rattle.paxos_learner.specs.Learner.{learned_at}
use Rattle.paxos_learner.proofs.Rising.{none_outside}
use Rattle.paxos_learner.proofs.Running.{run_over, run_more}
use Rattle.paxos_learner.proofs.hearing.run_after.Goals as goal

pub returns-in_default-clause-run : goal.returns-in_default-clause-run
returns-in_default-clause-run g c =
    let none : learned_at (c.loop-number.number + 1) (after c.args.hearing.now).learner.learned ≡ None =
    sym c.learned_in.ensures ∙ ap option_copied c.in_default.is in
    run_over c.loop-number.number (c.loop-number.number + 1) _ _ _ (omega arith) none c.loop-number.invariant

pub loop-number-preserved : goal.loop-number-preserved
loop-number-preserved g c =
    run_more (after c.args.hearing.now).learner.floor c.loop-number.number (c.loop-number.number + 1) c.loop-number.run c.push_copy.new.entries _ c.in-Some.entry.now
    (after c.args.hearing.now).learner.learned (omega arith) c.ascends.ensures (sym c.in-Some.ensures) c.in_ok-push_copy.ensures.ok c.loop-number.invariant

pub returns-clause-run : goal.returns-clause-run
returns-clause-run g c =
    let none : None ≡ learned_at (c.loop-number.number + 1) (after c.args.hearing.now).learner.learned =
    none_outside (after c.args.hearing.now).learner.floor (c.loop-number.number + 1) (after c.args.hearing.now).learner.learned c.ascends.ensures
    (λ h. absurd (let k : c.loop-number.number + 1 < 1099511627776 = h.1 in omega (arith, c.loop-number-test.false))) in
    run_over c.loop-number.number (c.loop-number.number + 1) _ _ _ (omega arith) (sym none) c.loop-number.invariant
