use Rattle.std.proofs.Common.{ℕ, sym, ap, ◌∙◌}
use Rattle.realm_lists.specs.Finding.{is_passing}
use Rattle.realm_lists.specs.OrderedList.{member_at}
use Rattle.realm_lists.specs.PlaceIndex.{place_of}
use Rattle.realm_lists.proofs.Finding.{kept_all}
use Rattle.realm_lists.proofs.Told.{told_none, told_without}
use Rattle.realm_calls.specs.Calls.{is_call}
use Rattle.realm_calls.proofs.Indexes.{indexed_without, nothing_untold}
use Rattle.realm_calls.proofs.open_calls.OpenCalls.end.Goals as goal

pub returns-in_default : goal.returns-in_default
returns-in_default c =
    let key : ℕ × ℕ = (c.args.ended.now.caller, c.args.ended.now.request) in
    rw (← c.self.view_is)
    (sym (kept_all (is_call key.0 key.1) c.self.inside.rows
    (told_none (is_call key.0 key.1) (place_of c.self.inside.requests key) c.self.inside.rows
    (sym c.place_in.ensures ∙ c.in_default.is) (c.self.invariant.requests_index.found key))))

pub invariant_of-self : goal.invariant_of-self
invariant_of-self c =
    let key : ℕ × ℕ = (c.args.ended.now.caller, c.args.ended.now.request) in
    absurd (nothing_untold (is_call key.0 key.1) (member_at c.in-Some.place c.self.inside.rows)
    (c.self.invariant.requests_index.told key c.in-Some.place (sym c.place_in.ensures ∙ c.in-Some.is))
    (sym c.remove.ensures.member ∙ c.in_default-remove.is))

pub returns-in_default-remove : goal.returns-in_default-remove
returns-in_default-remove c =
    let key : ℕ × ℕ = (c.args.ended.now.caller, c.args.ended.now.request) in
    absurd (nothing_untold (is_call key.0 key.1) (member_at c.in-Some.place c.self.inside.rows)
    (c.self.invariant.requests_index.told key c.in-Some.place (sym c.place_in.ensures ∙ c.in-Some.is))
    (sym c.remove.ensures.member ∙ c.in_default-remove.is))

pub invariant_of-self-2 : goal.invariant_of-self-2
invariant_of-self-2 c =
    rw c.remove.ensures.rows
    (indexed_without c.self.inside.rows c.self.inside.requests c.self.inside.invocations c.remove_key.new.index c.remove_key-2.new.index
    c.self.inside.counts c.count_less.new.counts c.in-Some.place c.in-Some-remove.gone c.remove.ensures.rising
    (sym c.remove.ensures.member ∙ c.in-Some-remove.is) c.remove_key.ensures c.remove_key-2.ensures c.count_less.ensures
    c.self.invariant)

pub returns : goal.returns
returns c =
    let key : ℕ × ℕ = (c.args.ended.now.caller, c.args.ended.now.request) in
    let test = is_call key.0 key.1 in
    let told = sym c.place_in.ensures ∙ c.in-Some.is in
    let there = sym c.remove.ensures.member ∙ c.in-Some-remove.is in
    let passes = sym (ap (is_passing test) there) ∙ c.self.invariant.requests_index.told key c.in-Some.place told in
    rw (c.remove.ensures.rows, ← c.self.view_is)
    (sym (told_without test (place_of c.self.inside.requests key) c.self.inside.rows c.in-Some.place c.in-Some-remove.gone
    c.remove.ensures.rising told (c.self.invariant.requests_index.found key) there passes))
