use Rattle.std.proofs.Common.{rules, ◌≡◌, ◌≢◌, ◌-◌, suc, Err, ap, sym, ◌∙◌, subst, arith}
use Rattle.std.specs.Prelude.{IfErr}
use Rattle.command_codec.specs.declared.fault.CodecFault.TheVariants.{Memory}
use Rattle.realm_snapshot.specs.Reading.{elements_reading}
use Rattle.realm_snapshot.proofs.Taking.{onto, fault_taken, at_first, one_more, no_more, at_last}
use Rattle.realm_snapshot.proofs.reading_parts.take_elements.Goals as goal

pub loop-turn-init : goal.loop-turn-init
loop-turn-init g c = λ left all.
    at_first g.R.Reads.reading c.args.count left c.args.cursor.now c.new-list.result.items all c.new-list.ensures.items

pub returns-in_err-element-clause-fault : goal.returns-in_err-element-clause-fault
returns-in_err-element-clause-fault g c =
    let fault = c.in_err-element.field-0.0 in
    let left = c.args.count - c.loop-turn._turn - 1 in
    let given : c.from_residual.result ≡ Err fault = search rules in
    subst (λ r. IfErr r (λ f. f ≢ Memory → elements_reading g.R.Reads.reading c.args.count c.args.cursor.now ≡ Err f)) (sym given)
    (λ not.
    c.loop-turn.invariant (suc left) (let more = c.loop-turn-test.true in omega arith)
    ∙ no_more g.R.Reads.reading left c.loop-turn.cursor c.loop-turn.list.items fault
    (fault_taken fault (g.R.Reads.reading c.loop-turn.cursor) c.take.new.cursor c.in_err-element.ensures not))

pub loop-turn-preserved : goal.loop-turn-preserved
loop-turn-preserved g c = λ left all.
    c.loop-turn.invariant (suc left) (omega arith)
    ∙ one_more g.R.Reads.reading left c.loop-turn.cursor c.take.new.cursor c.loop-turn.list.items c.in_ok-element.element
    c.in_ok-element.ensures
    ∙ ap (λ l. onto l (elements_reading g.R.Reads.reading left c.take.new.cursor)) (sym c.in_ok-push.ensures.items)

pub returns-clause-taken : goal.returns-clause-taken
returns-clause-taken g c =
    at_last (elements_reading g.R.Reads.reading c.args.count c.args.cursor.now) c.loop-turn.cursor c.loop-turn.list.items
    (c.loop-turn.invariant 0 (let over = c.loop-turn-test.false in let end = c.loop-turn.auto._turn-end in omega arith))
