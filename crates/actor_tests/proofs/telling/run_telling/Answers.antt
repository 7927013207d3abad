use Rattle.std.proofs.Common.{◌≡◌, eqb, true, [], ◌∙◌, sym, rules}
use Rattle.std.specs.Prelude.{is_ok}
use Rattle.replica_machine.specs.Examples.{adds}
use Rattle.test_machines.specs.Sum.{loaded_sum}
use Rattle.actor_tests.proofs.Feeding.{told_all}
use Rattle.actor_tests.proofs.telling.run_telling.Goals as goal

pub returns-clause-told : goal.returns-clause-told
returns-clause-told g c = λ ok whole view stands.
    let good : is_ok c.run_node-done.result ≡ true = search rules in
    told_all eqb adds (λ w. w.0) loaded_sum _ _ _ _ c.args.actor.now c.run_node-done.new.actor view c.run_node-done.new.feed
    c.run_node-done.new.feed.gave.items c.run_node-done.new.feed.got.items c.run_node-done.result good (λ given said h. h whole)
    (c.run_node-done.ensures.runs view [] [] stands (λ _. (c.requires.gave, c.requires.got)))
