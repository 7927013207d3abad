use Rattle.std.proofs.Common.{◌≡◌, ◌∙◌, ap, sym, subst, Some, rules}
use Rattle.std.specs.Prelude.{Err}
use Rattle.sqlite.specs.Held.{state}
use Rattle.store_rows.specs.Numbers.{numbers_in_rows}
use Rattle.acceptor_store.specs.Answers.{IsUnfit}
use Rattle.acceptor_store.proofs.Keeping.{leaves_on, left_reads}
use Rattle.acceptor_store.proofs.Calling.{earlier, held_on}
use Rattle.acceptor_store.proofs.Refusing.{held_fit}
use Rattle.acceptor_store.proofs.calls.read.Goals as goal

pub returns-clause-right : goal.returns-clause-right
returns-clause-right g c clean rows holds =
    c.in_ok-rows.ensures.right clean rows (holds (earlier g.S.Store c.args.session.now.conn c.read_store.new.conn c.read_store.ensures.survives.clean clean)).0

pub returns-clause-kept : goal.returns-clause-kept
returns-clause-kept g c rows holds clean =
    let left = (holds (earlier g.S.Store c.args.session.now.conn c.read_store.new.conn c.read_store.ensures.survives.clean clean)).0 in (
      leaves_on g.C.Coder.reading (state g.S.Store c.args.session.now.conn) (state g.S.Store c.read_store.new.conn) rows c.read_store.ensures.survives clean left,
      c.of.ensures ∙ ap numbers_in_rows (c.in_ok-rows.ensures.right clean rows left),
    )

pub returns-in_err-rows-clause-kept : goal.returns-in_err-rows-clause-kept
returns-in_err-rows-clause-kept g c rows holds =
    held_on g.S.Store g.C.Coder.reading c.args.session.now.conn c.read_store.new.conn c.args.session.now.known rows c.read_store.ensures.survives holds

pub returns-clause-told : goal.returns-clause-told
returns-clause-told g c = ap Some c.of.ensures

pub returns-in_err-rows-clause-sound : goal.returns-in_err-rows-clause-sound
returns-in_err-rows-clause-sound g c clean rows holds unfit =
    let old = state g.S.Store c.args.session.now.conn in
    let left = (holds (earlier g.S.Store c.args.session.now.conn c.read_store.new.conn c.read_store.ensures.survives.clean clean)).0 in
    let given : c.from_residual.result ≡ Err c.in_err-rows.field-0.0 = search rules in
    let read : c.read_store.result ≡ Err c.in_err-rows.field-0.0 = search rules in
    let told = subst IsUnfit given unfit in
    let is_open = c.read_store.ensures.open clean (subst IsUnfit (sym read) told) in
    let has = left_reads g.C.Coder.reading old rows c.settle.ensures.live (c.settle.ensures.settled c.args.session.now.alone is_open) is_open (c.settle.ensures.stays is_open) left in
    held_fit g.C.Coder.reading old.now rows c.in_err-rows.field-0.0 has (c.in_err-rows.ensures.tells clean) told
