use Rattle.std.proofs.Common.{rules, ◌≡◌, IfSome, refl, sym, ap, ◌∙◌, subst}
use Rattle.test_machines.specs.Sum.{saved_sum, loaded_sum}
use Rattle.test_machines.proofs.Sums.{sum_again}
use Rattle.test_machines.proofs.sum.save.Goals as goal

pub returns-clause-back : goal.returns-clause-back
returns-clause-back c =
    let written : c.extend_from_slice.new.self.items ≡ saved_sum c.args.sum = search rules in
    ap loaded_sum written ∙ sum_again c.args.sum c.ranges.sum.fits

pub returns-clause-only : goal.returns-clause-only
returns-clause-only c =
    let written : c.extend_from_slice.new.self.items ≡ saved_sum c.args.sum = search rules in
    subst (λ o. IfSome o (λ made. made ≡ c.args.sum)) (sym (ap loaded_sum written ∙ sum_again c.args.sum c.ranges.sum.fits)) refl
