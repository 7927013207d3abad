use Rattle.std.proofs.Common.{◌∙◌, ◌+◌, ◌++◌, sym, take, arith}
use Rattle.std.proofs.lemmas.Result.{err_from_is_err_and}
use Rattle.script_program.proofs.Appending.{roll_begins, roll_step, entries_begin, entries_end, line_step}
use Rattle.script_program.proofs.Pages.{goes_on, goes_wrong}
use Rattle.script_program.proofs.text.print.print_entries.Goals as goal

pub loop-entry-init : goal.loop-entry-init
loop-entry-init g c = (
  omega (arith),
  λ under stands. (
    roll_begins under c.args.log.now c.args.at_floor stands,
    entries_begin under c.args.log.now (c.args.floor + 1) _ _,
  ),
)

pub returns-in_err-print_entry : goal.returns-in_err-print_entry
returns-in_err-print_entry g c = λ under stands.
    let p = err_from_is_err_and c.from_residual.result c.from_residual.ensures.1 in
    let kept = c.loop-entry.invariant.1 under stands in
    let front = under ++ take c.loop-entry.entry-index c.args.log.now in
    let cut = line_step under c.args.log.now c.loop-entry.entry-index c.entry-item.result c.loop-entry-test.true c.entry-item.is c.loop-entry.slot
    c.take-took.result (c.take-took.ensures.took front kept.0 ∙ sym (c.effects.ensures.effects front c.entry-item.result)) in
    rw (p.1, p.2) (goes_wrong _ _ _ _ _ _ kept.1 c.in_err-print_entry.field-0.0 _ _ _ _ cut c.in_err-print_entry.ensures)

pub loop-entry-preserved : goal.loop-entry-preserved
loop-entry-preserved g c = (
  omega (arith, c.loop-entry.invariant.0),
  λ under stands.
      let kept = c.loop-entry.invariant.1 under stands in
      let front = under ++ take c.loop-entry.entry-index c.args.log.now in
      let cut = line_step under c.args.log.now c.loop-entry.entry-index c.entry-item.result c.loop-entry-test.true c.entry-item.is c.loop-entry.slot
      c.take-took.result (c.take-took.ensures.took front kept.0 ∙ sym (c.effects.ensures.effects front c.entry-item.result)) in (
        roll_step under c.args.log.now c.loop-entry.entry-index c.entry-item.result c.loop-entry-test.true c.entry-item.is c.loop-entry.roll
            c.take-took.new.self kept.0 c.take-took.ensures.standings,
        goes_on _ _ _ _ _ _ kept.1 _ _ _ _ cut c.in_ok-print_entry.ensures,
      ),
)

pub returns : goal.returns
returns g c = λ under stands.
    let kept = c.loop-entry.invariant.1 under stands in
    entries_end under c.args.log.now (c.loop-entry.slot + 1) c.loop-entry.entry-index (omega (arith, c.loop-entry-test.false)) _ _ _ _ _ kept.1
