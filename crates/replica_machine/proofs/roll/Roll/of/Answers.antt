use Rattle.std.proofs.Common.{rules, ap, ◌∙◌, cond, eqb, get_or}
use Rattle.replica_machine.specs.declared.roll.Standing.TheVariants.{Unknown}
use Rattle.replica_machine.proofs.Snapshots.{named_by_one}
use Rattle.replica_machine.proofs.roll.Roll.of.Goals as goal

pub returns : goal.returns
returns c = λ n within.
    let seven = c.args.standings in
    c.put-7.ensures n within
    ∙ ap (λ s. cond (eqb 1 n) (get_or seven 0 Unknown) s) (c.put-6.ensures n within
    ∙ ap (λ s. cond (eqb 2 n) (get_or seven 1 Unknown) s) (c.put-5.ensures n within
    ∙ ap (λ s. cond (eqb 3 n) (get_or seven 2 Unknown) s) (c.put-4.ensures n within
    ∙ ap (λ s. cond (eqb 4 n) (get_or seven 3 Unknown) s) (c.put-3.ensures n within
    ∙ ap (λ s. cond (eqb 5 n) (get_or seven 4 Unknown) s) (c.put-2.ensures n within
    ∙ ap (λ s. cond (eqb 6 n) (get_or seven 5 Unknown) s) (c.put.ensures n within
    ∙ ap (λ s. cond (eqb 7 n) (get_or seven 6 Unknown) s) (c.new-roll.ensures.unknown n within)))))))
    ∙ named_by_one seven n (search rules)
