use Rattle.std.proofs.Common.{sym, subst}
use Rattle.std.specs.Prelude.{OnOk}
use Rattle.realm_snapshot.specs.Writing.{session_octets}
use Rattle.realm_snapshot.specs.Reading.{session_reading}
use Rattle.realm_snapshot.specs.Snapshot.{Backs}
use Rattle.realm_snapshot.proofs.Listing.{on_ok}
use Rattle.realm_snapshot.proofs.PartsBack.{no_session_back}
use Rattle.realm_snapshot.proofs.writing_parts.put_session.Goals as goal

pub returns-in-Some-clause-back : goal.returns-in-Some-clause-back
returns-in-Some-clause-back c =
    subst (λ s. OnOk c.put_joined.result (Backs session_reading (session_octets s) s)) (sym c.in-Some.is) c.put_joined.ensures.back

pub returns-in-None-clause-back : goal.returns-in-None-clause-back
returns-in-None-clause-back c =
    on_ok c.put_no_session.result (subst (λ s. Backs session_reading (session_octets s) s) (sym c.in-None.is) no_session_back)
