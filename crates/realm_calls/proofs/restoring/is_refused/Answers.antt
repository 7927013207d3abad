use Rattle.std.proofs.Common.{sym, ◌∙◌}
use Rattle.realm_calls.proofs.PutCalls.{by_request, by_invocation}
use Rattle.realm_calls.proofs.restoring.is_refused.Goals as goal

pub returns-then-is_requested : goal.returns-then-is_requested
returns-then-is_requested c = by_request c.args.held.now c.args.call.now (sym c.is_requested.ensures ∙ c.if-is_requested.true)

pub returns : goal.returns
returns c =
    c.is_invoked.ensures ∙ by_invocation c.args.held.now c.args.call.now (sym c.is_requested.ensures ∙ c.if-is_requested.false)
