use Rattle.std.proofs.Common.{ℕ, List, filter, ap, ◌∙◌}
use Rattle.realm_lists.specs.OrderedList.{members, members_at, has_place}
use Rattle.realm_lists.specs.PlaceIndex.{places_under}
use Rattle.realm_lists.proofs.Finding.{among_is}
use Rattle.realm_calls.specs.Indexed.{of_caller}
use Rattle.realm_calls.proofs.Indexes.{callers_are_under}
use Rattle.realm_calls.proofs.open_calls.OpenCalls.of_caller.Goals as goal

pub returns-clause-found : goal.returns-clause-found
returns-clause-found c =
    let rows = c.self.inside.rows in
    let under = places_under c.self.inside.requests c.args.session in
    rw (← c.self.view_is)
    (c.by_caller.ensures
    ∙ ap (filter (of_caller c.args.session))
    (c.in_ok-calls.ensures
    ∙ ap members (c.in_ok-among.ensures ∙ ap (λ (places : List ℕ). members_at places rows) (c.deref.ensures.value ∙ c.in_ok-places.ensures.found)))
    ∙ among_is (of_caller c.args.session) (λ row. has_place under row.0) rows
    (callers_are_under c.self.inside.requests rows c.args.session c.self.invariant.requests_index.found))
