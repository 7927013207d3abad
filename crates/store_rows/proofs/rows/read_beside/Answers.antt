use Rattle.std.proofs.Common.{◌≡◌, sym, subst, true}
use Rattle.store_rows.specs.Numbers.{are_numbers, numbers_in_rows}
use Rattle.store_rows.proofs.Within.{numbers_within}
use Rattle.store_rows.proofs.rows.read_beside.Goals as goal

pub returns-in-Ok-clause-numbers : goal.returns-in-Ok-clause-numbers
returns-in-Ok-clause-numbers g c =
    subst (λ r. are_numbers (numbers_in_rows r) ≡ true) (sym c.rows_with.ensures)
    (numbers_within 2 c.floor_in.result c.args.metas.now c.in-Some.numbers (sym c.in-Some.ensures))
