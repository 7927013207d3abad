use Rattle.std.proofs.Common.{sym, ◌∙◌}
use Rattle.realm_calls.specs.Calls.{calls_by}
use Rattle.realm_calls.proofs.Found.{one_named, none_named}
use Rattle.realm_calls.proofs.calls.calls_by.Goals as goal
use Rattle.realm_calls.proofs.calls.calls_by.Goals.{then-is_by+in_ok-push, else-is_by}

pub loop-call-preserved : goal.loop-call-preserved
loop-call-preserved c =
    let calls = c.args.calls.now.items in
    let within = rw c.deref-call-items.ensures.value at c.loop-call-test.true in
    let is = rw c.deref-call-items.ensures.value at c.call-item.is in
    elim c.if-is_by.branch [
      | then-is_by+in_ok-push w ↦ one_named calls c.loop-call.found.items c.if-is_by.found.items (calls_by calls c.args.session)
          c.args.session c.loop-call.call-index c.call-item.result within is (sym c.is_by.ensures ∙ w.if-is_by.true)
          (rw w.found-is w.in_ok-push.ensures.items) c.loop-call.invariant
      | else-is_by w ↦ rw w.found-is (none_named calls c.loop-call.found.items (calls_by calls c.args.session)
          c.args.session c.loop-call.call-index c.call-item.result within is (sym c.is_by.ensures ∙ w.if-is_by.false) c.loop-call.invariant)
    ]
