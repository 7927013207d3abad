use Rattle.std.proofs.Common.{ℕ, List, filter, ap, ◌∙◌}
use Rattle.realm_lists.specs.OrderedList.{members, members_at, has_place}
use Rattle.realm_lists.specs.PlaceIndex.{places_under}
use Rattle.realm_lists.proofs.Finding.{among_is}
use Rattle.realm_calls.specs.Indexed.{of_callee}
use Rattle.realm_calls.proofs.Indexes.{callees_are_under}
use Rattle.realm_calls.proofs.open_calls.OpenCalls.of_callee.Goals as goal

pub returns-clause-found : goal.returns-clause-found
returns-clause-found c =
    let rows = c.self.inside.rows in
    let under = places_under c.self.inside.invocations c.args.session in
    rw (← c.self.view_is)
    (c.to_callee.ensures
    ∙ ap (filter (of_callee c.args.session))
    (c.in_ok-calls.ensures
    ∙ ap members (c.in_ok-among.ensures ∙ ap (λ (places : List ℕ). members_at places rows) (c.deref.ensures.value ∙ c.in_ok-places.ensures.found)))
    ∙ among_is (of_callee c.args.session) (λ row. has_place under row.0) rows
    (callees_are_under c.self.inside.invocations rows c.args.session c.self.invariant.invocations_index.found))
