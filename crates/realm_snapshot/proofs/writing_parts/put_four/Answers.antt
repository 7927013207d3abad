use Rattle.realm_snapshot.proofs.RoundTrip.{limit_back}
use Rattle.realm_snapshot.proofs.writing_parts.put_four.Goals as goal

pub returns-in_err-extend_from_slice-clause-back : goal.returns-in_err-extend_from_slice-clause-back
returns-in_err-extend_from_slice-clause-back c = limit_back c.args.number c.ranges.number.fits

pub returns-clause-back : goal.returns-clause-back
returns-clause-back c = limit_back c.args.number c.ranges.number.fits
