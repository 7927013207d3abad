use Rattle.std.proofs.Common.{◌≡◌, ℕ, Some, None, nat_eq, subst, if◌then◌else◌}
use Rattle.realm_subscriptions.specs.Subscribers.{place_of}
use Rattle.realm_subscriptions.proofs.Joined.{joined_back, joined_index}
use Rattle.realm_subscriptions.proofs.later.Later.join.Goals as goal

pub invariant_of-self-in-Ok : goal.invariant_of-self-in-Ok
invariant_of-self-in-Ok c = rw c.in-Ok.ensures.ok
    (joined_index c.self.inside.places c.put.new.self c.self.inside.rows c.in-Some.place c.args.session c.in-Some.ensures.above
    (rw (← c.self.view_is) at c.requires)
    (subst (λ s. (other : ℕ) → place_of c.put.new.self other
    ≡ (if nat_eq s other then Some c.in-Some.place else place_of c.self.inside.places other)) c.get-number.ensures.value
    c.in_ok-put.ensures.ok)
    c.self.invariant)

pub invariant_of-self-in_default-push : goal.invariant_of-self-in_default-push
invariant_of-self-in_default-push c = rw c.in_default-push.ensures.err
    (joined_back c.self.inside.places c.put.new.self c.remove.new.self c.self.inside.rows c.in-Some.place c.args.session
    (rw (← c.self.view_is) at c.requires)
    (subst (λ s. (other : ℕ) → place_of c.put.new.self other
    ≡ (if nat_eq s other then Some c.in-Some.place else place_of c.self.inside.places other)) c.get-number.ensures.value
    c.in_ok-put.ensures.ok)
    (subst (λ s. (other : ℕ) → place_of c.remove.new.self other
    ≡ (if nat_eq s other then None else place_of c.put.new.self other)) c.get-number.ensures.value c.remove.ensures)
    c.self.invariant)
