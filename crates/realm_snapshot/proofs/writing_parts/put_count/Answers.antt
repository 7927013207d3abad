use Rattle.realm_snapshot.proofs.RoundTrip.{count_back}
use Rattle.realm_snapshot.proofs.writing_parts.put_count.Goals as goal

pub returns-clause-back : goal.returns-clause-back
returns-clause-back c = count_back c.args.count c.ranges.count.fits
