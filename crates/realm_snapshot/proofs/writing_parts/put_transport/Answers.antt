use Rattle.realm_snapshot.proofs.Listing.{on_ok}
use Rattle.realm_snapshot.proofs.PartsBack.{transport_back}
use Rattle.realm_snapshot.proofs.Only.{transport_only}
use Rattle.realm_snapshot.proofs.writing_parts.put_transport.Goals as goal

pub returns-clause-back : goal.returns-clause-back
returns-clause-back c = on_ok c.put_four.result (transport_back c.args.transport.now c.put_four.ensures.back)

pub returns-clause-only : goal.returns-clause-only
returns-clause-only c = on_ok c.put_four.result (transport_only c.args.transport.now c.put_one.ensures.fits c.put_number.ensures.fits
    c.put_four.ensures.fits)
