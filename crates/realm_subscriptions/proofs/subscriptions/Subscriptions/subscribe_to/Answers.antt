use Rattle.std.proofs.Common.{sym, ◌∙◌}
use Rattle.std.proofs.lemmas.Bool.{false≢true}
use Rattle.realm_subscriptions.proofs.Grouped.{not_subscribed, subscribed_is}
use Rattle.realm_subscriptions.proofs.subscriptions.Subscriptions.subscribe_to.Goals as goal

pub returns-in_default-clause-member : goal.returns-in_default-clause-member
returns-in_default-clause-member c = λ on. absurd (false≢true
    (sym (not_subscribed c.args.self.now c.args.session c.args.pattern.now (rw (← c.self.view_is) (sym c.in_default.ensures))) ∙ on))

pub returns-then-is_full-clause-member : goal.returns-then-is_full-clause-member
returns-then-is_full-clause-member c = λ on. absurd (false≢true
    (c.if-has.ensures
    ∙ sym (subscribed_is c.args.self.now c.args.session c.args.pattern.now c.in-Some.found.now (rw (← c.self.view_is) (sym c.in-Some.ensures)))
    ∙ on))

pub returns-in_err-join-clause-member : goal.returns-in_err-join-clause-member
returns-in_err-join-clause-member c = λ on. absurd (false≢true
    (c.if-has.ensures
    ∙ sym (subscribed_is c.args.self.now c.args.session c.args.pattern.now c.in-Some.found.now (rw (← c.self.view_is) (sym c.in-Some.ensures)))
    ∙ on))
