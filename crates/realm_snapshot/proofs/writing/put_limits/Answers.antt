use Rattle.realm_snapshot.proofs.Listing.{on_ok}
use Rattle.realm_snapshot.proofs.RealmBack.{limits_back}
use Rattle.realm_snapshot.proofs.writing.put_limits.Goals as goal

pub returns-clause-back : goal.returns-clause-back
returns-clause-back c = on_ok c.put_four-4.result
    (limits_back c.args.limits.now c.put_four.ensures.back c.put_four-2.ensures.back c.put_four-3.ensures.back c.put_four-4.ensures.back)
