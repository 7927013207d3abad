use Rattle.std.proofs.Common.{is_some, sym, ap, ◌∙◌}
use Rattle.realm_lists.proofs.Finding.{any_is_find}
use Rattle.realm_lists.proofs.Told.{is_some_mapped}
use Rattle.realm_calls.specs.Calls.{is_call}
use Rattle.realm_calls.proofs.restoring.is_requested.Goals as goal

pub returns : goal.returns
returns c =
    c.is_some.ensures ∙ sym (is_some_mapped (λ call. call.now) c.find_call.result) ∙ ap is_some c.find_call.ensures
    ∙ sym (any_is_find (is_call c.args.call.now.caller c.args.call.now.request) c.args.held.now)
