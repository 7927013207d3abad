use Rattle.realm_snapshot.proofs.Listing.{on_ok_more}
use Rattle.realm_snapshot.proofs.RealmBack.{config_back}
use Rattle.realm_snapshot.proofs.writing.put_config.Goals as goal

pub returns-clause-back : goal.returns-clause-back
returns-clause-back c =
    on_ok_more c.put_limits.result
    (config_back (record { name = c.args.name.now; limits = c.args.limits.now }) c.in_ok-put_name.ensures.back)
    c.put_limits.ensures.back
