use Rattle.std.proofs.Common.{ℕ, sym, ◌∙◌}
use Rattle.realm_lists.specs.PlaceIndex.{place_of}
use Rattle.realm_lists.proofs.Told.{told_none, told_member}
use Rattle.realm_calls.specs.Calls.{is_invocation}
use Rattle.realm_calls.proofs.open_calls.OpenCalls.find_invocation.Goals as goal

pub returns-in_default : goal.returns-in_default
returns-in_default c =
    let key : ℕ × ℕ = (c.args.callee, c.args.invocation) in
    rw (← c.self.view_is)
    (sym (told_none (is_invocation c.args.callee c.args.invocation) (place_of c.self.inside.invocations key) c.self.inside.rows
    (sym c.place_in.ensures ∙ c.in_default.is) (c.self.invariant.invocations_index.found key)))

pub returns : goal.returns
returns c =
    let key : ℕ × ℕ = (c.args.callee, c.args.invocation) in
    let told = sym c.place_in.ensures ∙ c.in-Some.is in
    rw (← c.self.view_is)
    (c.get.ensures.member
    ∙ sym (told_member (is_invocation c.args.callee c.args.invocation) (place_of c.self.inside.invocations key) c.self.inside.rows c.in-Some.place
    c.get.ensures.rising told (c.self.invariant.invocations_index.found key) (c.self.invariant.invocations_index.told key c.in-Some.place told)))
