use Rattle.std.proofs.Common.{◌≡◌, ◌++◌, ◌∙◌, subst}
use Rattle.std.specs.Prelude.{OnOk}
use Rattle.realm_snapshot.specs.Writing.{list_octets, call_octets}
use Rattle.realm_snapshot.specs.Reading.{list_reading, call_reading}
use Rattle.realm_snapshot.specs.Snapshot.{Backs}
use Rattle.realm_snapshot.proofs.writing.put_open.Goals as goal

pub returns-in-Ok-clause-ok : goal.returns-in-Ok-clause-ok
returns-in-Ok-clause-ok c =
    subst (λ l. OnOk c.put_calls.result (c.put_calls.new.out.items ≡ c.args.out.now.items ++ list_octets call_octets l))
    (c.deref.ensures.value ∙ c.in-Ok.ensures.list) c.put_calls.ensures.ok

pub returns-in-Ok-clause-back : goal.returns-in-Ok-clause-back
returns-in-Ok-clause-back c =
    subst (λ l. OnOk c.put_calls.result (Backs (list_reading call_reading) (list_octets call_octets l) l))
    (c.deref.ensures.value ∙ c.in-Ok.ensures.list) c.put_calls.ensures.back
