use Rattle.std.proofs.Common.{◌≡◌, true, None, Some, OnOk, ap, sym, subst, ◌∙◌, rules}
use Rattle.realm_sessions.specs.Fault.{Answers}
use Rattle.realm_registrations.specs.Registration.{may_join}
use Rattle.realm_registrations.specs.Registrations.{Registrations, Registered, registration_at}
use Rattle.realm_registrations.proofs.Registering.{none_there, one_full, one_joined}
use Rattle.realm_registrations.proofs.registrations.Registrations.register.Goals as goal

pub returns-in_default-clause-answer : goal.returns-in_default-clause-answer
returns-in_default-clause-answer c =
    let none : registration_at c.args.self.now c.args.pattern.now ≡ None =
    ap (λ (r : Registrations). registration_at r c.args.pattern.now) (sym c.self.view_is) ∙ sym c.in_default.ensures in
    let same = none_there c.args.self.now c.args.session c.args.pattern.now c.args.invoke (sym c.is_reserved.ensures ∙ c.if-is_reserved.false)
    none in
    subst (λ (d : Registered). Answers c.add_registration.result d.answer) (sym same) c.add_registration.ensures.answer

pub returns-in_default-clause-registrations : goal.returns-in_default-clause-registrations
returns-in_default-clause-registrations c =
    let none : registration_at c.args.self.now c.args.pattern.now ≡ None =
    ap (λ (r : Registrations). registration_at r c.args.pattern.now) (sym c.self.view_is) ∙ sym c.in_default.ensures in
    let same = none_there c.args.self.now c.args.session c.args.pattern.now c.args.invoke (sym c.is_reserved.ensures ∙ c.if-is_reserved.false)
    none in
    subst (λ (d : Registered). OnOk c.add_registration.result (c.add_registration.new.self ≡ d.registrations)) (sym same)
    c.add_registration.ensures.registrations

pub returns-then-is_full-clause-answer : goal.returns-then-is_full-clause-answer
returns-then-is_full-clause-answer c =
    let is : registration_at c.args.self.now c.args.pattern.now ≡ Some c.in-Some.registration.now =
    ap (λ (r : Registrations). registration_at r c.args.pattern.now) (sym c.self.view_is) ∙ sym c.in-Some.ensures in
    let may : may_join c.args.session c.args.invoke c.in-Some.registration.now ≡ true = sym c.may_join.ensures ∙ c.if-not-may_join.false in
    let same = one_full c.args.self.now c.args.session c.args.pattern.now c.args.invoke c.in-Some.registration.now
    (sym c.is_reserved.ensures ∙ c.if-is_reserved.false) is may (sym c.is_full.ensures ∙ c.if-is_full.true) in
    sym (ap (λ (d : Registered). d.answer) same)

pub returns-clause-answer : goal.returns-clause-answer
returns-clause-answer c =
    let is : registration_at c.args.self.now c.args.pattern.now ≡ Some c.in-Some.registration.now =
    ap (λ (r : Registrations). registration_at r c.args.pattern.now) (sym c.self.view_is) ∙ sym c.in-Some.ensures in
    let may : may_join c.args.session c.args.invoke c.in-Some.registration.now ≡ true = sym c.may_join.ensures ∙ c.if-not-may_join.false in
    let same = one_joined c.args.self.now c.args.session c.args.pattern.now c.args.invoke c.in-Some.registration.now
    (sym c.is_reserved.ensures ∙ c.if-is_reserved.false) is may (sym c.is_full.ensures ∙ c.if-is_full.false) in
    sym (ap (λ (d : Registered). d.answer) same)

pub returns-clause-registrations : goal.returns-clause-registrations
returns-clause-registrations c =
    let is : registration_at c.args.self.now c.args.pattern.now ≡ Some c.in-Some.registration.now =
    ap (λ (r : Registrations). registration_at r c.args.pattern.now) (sym c.self.view_is) ∙ sym c.in-Some.ensures in
    let may : may_join c.args.session c.args.invoke c.in-Some.registration.now ≡ true = sym c.may_join.ensures ∙ c.if-not-may_join.false in
    let same = one_joined c.args.self.now c.args.session c.args.pattern.now c.args.invoke c.in-Some.registration.now
    (sym c.is_reserved.ensures ∙ c.if-is_reserved.false) is may (sym c.is_full.ensures ∙ c.if-is_full.false) in
    c.in_ok-add_callee.ensures.ok ∙ sym (ap (λ (d : Registered). d.registrations) same)

pub returns-then-not-may_join-clause-answer : goal.returns-then-not-may_join-clause-answer
returns-then-not-may_join-clause-answer c = search rules

pub returns-then-not-may_join-clause-registrations : goal.returns-then-not-may_join-clause-registrations
returns-then-not-may_join-clause-registrations c = search rules

pub returns-then-not-may_join-clause-unchanged : goal.returns-then-not-may_join-clause-unchanged
returns-then-not-may_join-clause-unchanged c = search rules
