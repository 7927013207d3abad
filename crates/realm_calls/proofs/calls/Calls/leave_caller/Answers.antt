use Rattle.std.proofs.Common.{List, ap, ◌∙◌, rules}
use Rattle.realm_calls.specs.declared.calls.Open.{Open}
use Rattle.realm_calls.specs.Calls.{calls_by}
use Rattle.realm_calls.proofs.EndedCalls.{named_of_caller}
use Rattle.realm_calls.proofs.calls.Calls.leave_caller.Goals as goal

pub returns-clause-ended : goal.returns-clause-ended
returns-clause-ended c =
    rw (← c.self.view_is)
    (c.in_ok-named.ensures.found ∙ ap (λ (list : List Open). calls_by list c.args.session) c.in_ok-ended.ensures.found
    ∙ named_of_caller c.self.inside.held c.args.session)

pub end_all_of-requires : goal.end_all_of-requires
end_all_of-requires c = search rules
