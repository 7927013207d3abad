use Rattle.std.proofs.Common.{◌∙◌, ap, sym, Some, rules, subst, ◌≡◌}
use Rattle.std.specs.Prelude.{Err, IfErr}
use Rattle.sqlite.specs.Held.{state}
use Rattle.acceptor_store.specs.Answers.{Refuses}
use Rattle.acceptor_store.proofs.Keeping.{left_reads, survives_same}
use Rattle.acceptor_store.proofs.Calling.{earlier}
use Rattle.acceptor_store.proofs.Refusing.{held_told}
use Rattle.acceptor_store.proofs.calls.numbers.Goals as goal

pub returns-clause-told : goal.returns-clause-told
returns-clause-told g c = c.in_ok-rows.ensures.told ∙ ap Some (sym c.of.ensures)

pub returns-in_err-rows-clause-refused : goal.returns-in_err-rows-clause-refused
returns-in_err-rows-clause-refused g c clean rows holds is_open =
    let old = state g.S.Store c.args.session.now.conn in
    let left = (holds (earlier g.S.Store c.args.session.now.conn c.read.new.session.conn c.read.ensures.survives.clean clean)).0 in
    let has = left_reads g.C.Coder.reading old rows c.settle.ensures.live (c.settle.ensures.settled c.args.session.now.alone is_open) is_open (c.settle.ensures.stays is_open) left in
    let given : c.from_residual.result ≡ Err c.in_err-rows.field-0.0 = search rules in
    subst (λ r. IfErr r (Refuses ⊥)) (sym given) (held_told g.C.Coder.reading old.now rows c.in_err-rows.field-0.0 has (c.in_err-rows.ensures.tells clean))

pub returns-in-Some-clause-survives : goal.returns-in-Some-clause-survives
returns-in-Some-clause-survives g c = survives_same g.C.Coder.reading (state g.S.Store c.args.session.now.conn)
