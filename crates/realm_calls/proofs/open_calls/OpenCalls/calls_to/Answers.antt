use Rattle.std.proofs.Common.{not, filter, refl, ap, ◌∙◌}
use Rattle.realm_calls.specs.declared.calls.Open.{Open}
use Rattle.realm_calls.specs.Calls.{is_to}
use Rattle.realm_calls.specs.Indexed.{of_caller, of_callee}
use Rattle.realm_calls.proofs.EndedCalls.{filter_both}
use Rattle.realm_calls.proofs.open_calls.OpenCalls.calls_to.Goals as goal

pub returns-clause-found : goal.returns-clause-found
returns-clause-found c =
    let others = λ (call : Open). not (of_caller c.args.session call) in
    c.by_others.ensures ∙ ap (filter others) c.in_ok-calls.ensures.found
    ∙ filter_both others (of_callee c.args.session) (is_to c.args.session) (λ call. refl) c.args.self.now
