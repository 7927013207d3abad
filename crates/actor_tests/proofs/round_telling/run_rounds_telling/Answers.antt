use Rattle.std.proofs.Common.{◌≡◌, eqb, true, [], ◌∙◌, sym, rules}
use Rattle.std.specs.Prelude.{is_ok}
use Rattle.replica_machine.specs.Examples.{adds}
use Rattle.test_machines.specs.Sum.{loaded_sum}
use Rattle.actor_tests.proofs.Feeding.{told_rounds}
use Rattle.actor_tests.proofs.round_telling.run_rounds_telling.Goals as goal

pub returns-clause-told : goal.returns-clause-told
returns-clause-told g c = λ ok whole view stands.
    let good : is_ok c.run_rounds-done.result ≡ true = search rules in
    told_rounds eqb adds (λ w. w.0) loaded_sum _ _ _ _ c.args.actor.now c.run_rounds-done.new.actor view c.run_rounds-done.new.feed
    c.run_rounds-done.new.feed.gave.items c.run_rounds-done.new.feed.got.items c.run_rounds-done.result good (λ given said h. h whole)
    (c.run_rounds-done.ensures.runs view [] [] stands (λ _. (c.requires.gave, c.requires.got)))
