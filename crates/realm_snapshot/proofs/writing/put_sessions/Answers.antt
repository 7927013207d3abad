use Rattle.std.proofs.Common.{◌≡◌, ◌++◌, ◌∙◌, subst}
use Rattle.std.specs.Prelude.{OnOk}
use Rattle.realm_snapshot.specs.Writing.{list_octets, link_octets}
use Rattle.realm_snapshot.specs.Reading.{list_reading, link_reading}
use Rattle.realm_snapshot.specs.Snapshot.{AreNumbered, Backs, ReadsNoOther}
use Rattle.realm_snapshot.proofs.writing.put_sessions.Goals as goal

pub returns-in-Ok-clause-ok : goal.returns-in-Ok-clause-ok
returns-in-Ok-clause-ok c =
    subst (λ l. OnOk c.put_links.result (c.put_links.new.out.items ≡ c.args.out.now.items ++ list_octets link_octets l))
    (c.deref.ensures.value ∙ c.in-Ok.ensures.list) c.put_links.ensures.ok

pub returns-in-Ok-clause-back : goal.returns-in-Ok-clause-back
returns-in-Ok-clause-back c =
    subst (λ l. OnOk c.put_links.result (AreNumbered l → Backs (list_reading link_reading) (list_octets link_octets l) l))
    (c.deref.ensures.value ∙ c.in-Ok.ensures.list) c.put_links.ensures.back

pub returns-in-Ok-clause-only : goal.returns-in-Ok-clause-only
returns-in-Ok-clause-only c =
    subst (λ l. OnOk c.put_links.result (ReadsNoOther (list_reading link_reading) (list_octets link_octets l) l))
    (c.deref.ensures.value ∙ c.in-Ok.ensures.list) c.put_links.ensures.only
