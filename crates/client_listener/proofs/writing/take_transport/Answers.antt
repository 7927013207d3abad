use Rattle.std.proofs.Common.{length, Ok, ap, sym, ◌∙◌, rules}
use Rattle.rtrb.specs.Ring.{received, known_items}
use Rattle.client_listener.proofs.Sending.{with_limit, ends_with_limit, counted_on}
use Rattle.client_listener.proofs.writing.take_transport.Goals as goal

pub returns-in-Ok-false-clause-takes : goal.returns-in-Ok-false-clause-takes
returns-in-Ok-false-clause-takes g c =
    let allows = g.P.Protocol.allows in
    let kept = c.loop-step.invariant in
    let before = received c.args.consumer.now in
    let known = length (known_items c.args.consumer.now) in
    let old = g.W.Write.contents c.args.writer.now in
    let here = c.loop-step.outbox.limit in
    let underway = with_limit allows c.args.limit here known before (received c.loop-step.consumer) (length (known_items c.loop-step.consumer))
    old (g.W.Write.contents c.loop-step.writer) kept.limit kept.underway in
    let arm = c.in-Ok-false in
    ends_with_limit allows c.args.limit here known (Ok tt) before (received c.take_some.new.consumer) old
    (g.W.Write.contents c.take_some.new.writer) kept.limit (rw arm.field-0-test at (arm.ensures.steps known before old kept.empty underway))

pub loop-step-preserved : goal.loop-step-preserved
loop-step-preserved g c =
    let allows = g.P.Protocol.allows in
    let kept = c.loop-step.invariant in
    let before = received c.args.consumer.now in
    let known = length (known_items c.args.consumer.now) in
    let old = g.W.Write.contents c.args.writer.now in
    let here = c.loop-step.outbox.limit in
    let underway = with_limit allows c.args.limit here known before (received c.loop-step.consumer) (length (known_items c.loop-step.consumer))
    old (g.W.Write.contents c.loop-step.writer) kept.limit kept.underway in
    let arm = c.in-Ok-true in
    let went = rw arm.field-0-test at (arm.ensures.steps known before old kept.empty underway) in
    record {
      underway = with_limit allows here c.args.limit known before (received c.take_some.new.consumer)
          (length (known_items c.take_some.new.consumer)) old (g.W.Write.contents c.take_some.new.writer) (sym kept.limit) went.0;
      counted = counted_on c.loop-step._step c.loop-step.turns c.take_some.new.turns (length before)
          (length (received c.loop-step.consumer)) (length (received c.take_some.new.consumer)) kept.counted
          (arm.ensures.progress (ap Ok arm.field-0-test) kept.empty);
      empty = went.1;
      limit = c.take_some.ensures.limit ∙ kept.limit;
      same = search rules;
    }
