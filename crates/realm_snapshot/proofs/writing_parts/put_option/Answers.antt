use Rattle.std.proofs.Common.{sym, subst}
use Rattle.realm_snapshot.specs.Writing.{option_octets}
use Rattle.realm_snapshot.specs.Reading.{option_reading}
use Rattle.realm_snapshot.specs.Snapshot.{Backs}
use Rattle.realm_snapshot.proofs.PartsBack.{none_back, some_back}
use Rattle.realm_snapshot.proofs.writing_parts.put_option.Goals as goal

pub returns-in-Some-clause-back : goal.returns-in-Some-clause-back
returns-in-Some-clause-back c =
    subst (λ o. Backs option_reading (option_octets o) o) (sym c.in-Some.is) (some_back _ c.put_id.ensures.back)

pub returns-in-None-clause-back : goal.returns-in-None-clause-back
returns-in-None-clause-back c = subst (λ o. Backs option_reading (option_octets o) o) (sym c.in-None.is) none_back
