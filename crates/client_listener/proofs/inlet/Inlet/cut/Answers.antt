use Rattle.std.proofs.Common.{refl, ap, subst, sym, ◌∙◌}
use Rattle.std.proofs.lemmas.Result.{err_from_is_err_and}
use Rattle.client_listener.specs.Pending.{Pending}
use Rattle.client_listener.specs.Inlet.{Inflow}
use Rattle.client_listener.proofs.Inflow.{is_front, cut_off, ends, fails}
use Rattle.client_listener.proofs.inlet.Inlet.cut.Goals as goal

pub returns-in_err-frame-clause-cuts : goal.returns-in_err-frame-clause-cuts
returns-in_err-frame-clause-cuts c read before after none u =
    let p = err_from_is_err_and c.from_residual.result c.from_residual.ensures.1 in
    let none' = ap (λ (p : Pending). p.next) c.self.view_is ∙ none in
    rw (p.1, p.2)
    (fails read before after _ none' (subst (Inflow read before after) (sym c.self.view_is) u) _ _ _ c.in_err-frame.ensures)

pub returns-in_default-clause-cuts : goal.returns-in_default-clause-cuts
returns-in_default-clause-cuts c read before after none u =
    let none' = ap (λ (p : Pending). p.next) c.self.view_is ∙ none in
    ends read before after _ none' (subst (Inflow read before after) (sym c.self.view_is) u) _
    (rw c.in_default.is at c.in_ok-frame.ensures) none' refl

pub returns-in_err-item-clause-cuts : goal.returns-in_err-item-clause-cuts
returns-in_err-item-clause-cuts c read before after none u =
    let p = err_from_is_err_and c.from_residual-in_err-item.result c.from_residual-in_err-item.ensures.1 in
    rw (p.1, p.2, c.in_err-item.ensures) (is_front read before after c.args.self.now u)

pub returns-clause-cuts : goal.returns-clause-cuts
returns-clause-cuts c read before after none u =
    let none' = ap (λ (p : Pending). p.next) c.self.view_is ∙ none in
    cut_off read before after _ none' (subst (Inflow read before after) (sym c.self.view_is) u) c.in-Some.frame _
    (rw c.in-Some.is at c.in_ok-frame.ensures) (c.replace.ensures.after ∙ c.in_ok-item.ensures) refl
