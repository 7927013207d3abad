use Rattle.std.proofs.Common.{is_some, sym, ap, ◌∙◌}
use Rattle.realm_lists.proofs.Finding.{any_is_find}
use Rattle.realm_lists.proofs.Told.{is_some_mapped}
use Rattle.realm_calls.specs.Calls.{is_invocation}
use Rattle.realm_calls.proofs.restoring.is_invoked.Goals as goal

pub returns : goal.returns
returns c =
    c.is_some.ensures ∙ sym (is_some_mapped (λ call. call.now) c.find_invocation.result) ∙ ap is_some c.find_invocation.ensures
    ∙ sym (any_is_find (is_invocation c.args.call.now.callee c.args.call.now.invocation) c.args.held.now)
