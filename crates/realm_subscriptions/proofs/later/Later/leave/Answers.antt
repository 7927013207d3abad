use Rattle.std.proofs.Common.{◌≡◌, ℕ, None, nat_eq, subst, sym, ap, ◌∙◌, if◌then◌else◌}
use Rattle.realm_subscriptions.specs.Subscribers.{place_of}
use Rattle.realm_subscriptions.proofs.Joined.{left_index, left_list, left_none}
use Rattle.realm_subscriptions.proofs.later.Later.leave.Goals as goal

pub returns-in_default : goal.returns-in_default
returns-in_default c = rw (← c.self.view_is)
    (sym (left_none c.self.inside.places c.self.inside.rows c.args.session
    (sym (c.get.ensures ∙ ap (place_of c.self.inside.places) c.get-number.ensures.value) ∙ c.in_default.is) c.self.invariant))

pub invariant_of-self : goal.invariant_of-self
invariant_of-self c = rw c.remove.ensures.rows
    (left_index c.self.inside.places c.remove-2.new.self c.self.inside.rows c.args.session c.in-Some.place c.remove.ensures.rising
    (sym (c.get.ensures ∙ ap (place_of c.self.inside.places) c.get-number.ensures.value) ∙ c.in-Some.is)
    (subst (λ s. (other : ℕ) → place_of c.remove-2.new.self other
    ≡ (if nat_eq s other then None else place_of c.self.inside.places other)) c.get-number.ensures.value c.remove-2.ensures)
    c.self.invariant)

pub returns : goal.returns
returns c = rw (c.remove.ensures.rows, ← c.self.view_is)
    (sym (left_list c.self.inside.places c.self.inside.rows c.args.session c.in-Some.place c.remove.ensures.rising
    (sym (c.get.ensures ∙ ap (place_of c.self.inside.places) c.get-number.ensures.value) ∙ c.in-Some.is) c.self.invariant))
