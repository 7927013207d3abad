use Rattle.std.proofs.Common.{◌≡◌, Some, subst}
use Rattle.std.specs.Prelude.{IfOk, IfSome}
use Rattle.realm_machine.specs.Machine.{has_failed}
use Rattle.realm_snapshot.specs.Writing.{saved}
use Rattle.realm_snapshot.specs.Snapshot.{loaded, IsSavable}
use Rattle.realm_snapshot.proofs.RealmBack.{shown_live, not_failed}
use Rattle.realm_snapshot.proofs.snapshot.save.Goals as goal

pub returns-in-Ok-clause-failed : goal.returns-in-Ok-clause-failed
returns-in-Ok-clause-failed c =
    let realm = c.args.realm.now in
    not_failed c.written.result (has_failed realm) c.written.ensures.fault
    (shown_live _ realm.config realm.content c.in-Ok.parts c.in-Ok.ensures.shown).1

pub returns-in-Ok-clause-octets : goal.returns-in-Ok-clause-octets
returns-in-Ok-clause-octets c =
    let realm = c.args.realm.now in
    subst (λ l. IfOk c.written.result (λ octets. octets.items ≡ saved l))
    (shown_live _ realm.config realm.content c.in-Ok.parts c.in-Ok.ensures.shown).0 c.written.ensures.octets

pub returns-in-Ok-clause-back : goal.returns-in-Ok-clause-back
returns-in-Ok-clause-back c =
    let realm = c.args.realm.now in
    subst (λ l. IsSavable l → IfOk c.written.result (λ octets. loaded octets.items ≡ Some l))
    (shown_live _ realm.config realm.content c.in-Ok.parts c.in-Ok.ensures.shown).0 c.written.ensures.back

pub returns-in-Ok-clause-only : goal.returns-in-Ok-clause-only
returns-in-Ok-clause-only c =
    let realm = c.args.realm.now in
    subst (λ l. IfOk c.written.result (λ octets. IfSome (loaded octets.items) (λ made. made ≡ l)))
    (shown_live _ realm.config realm.content c.in-Ok.parts c.in-Ok.ensures.shown).0 (c.written.ensures.only c.in-Ok.ensures.limits)
