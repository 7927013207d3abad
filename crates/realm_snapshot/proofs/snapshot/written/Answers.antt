use Rattle.std.proofs.Common.{◌++◌, ap, ◌∙◌}
use Rattle.realm_snapshot.specs.Writing.{saved}
use Rattle.realm_snapshot.proofs.RealmBack.{loaded_back}
use Rattle.realm_snapshot.proofs.Determined.{loads_only}
use Rattle.realm_snapshot.proofs.snapshot.written.Goals as goal

pub returns-clause-back : goal.returns-clause-back
returns-clause-back c = loaded_back c.args.parts.now c.put_realm.new.out.items
    (c.in_ok-put_realm.ensures.ok ∙ ap (λ l. l ++ saved c.args.parts.now) c.new-octets.ensures.items) c.in_ok-put_realm.ensures.back

pub returns-clause-only : goal.returns-clause-only
returns-clause-only c = λ same. loads_only c.args.parts.now c.put_realm.new.out.items
    (c.in_ok-put_realm.ensures.ok ∙ ap (λ l. l ++ saved c.args.parts.now) c.new-octets.ensures.items) same c.in_ok-put_realm.ensures.only
