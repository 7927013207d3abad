use Rattle.realm_snapshot.specs.Writing.{eight_octets}
use Rattle.realm_snapshot.specs.Reading.{id_reading}
use Rattle.realm_snapshot.specs.Snapshot.{Backs}
use Rattle.realm_snapshot.proofs.Listing.{each_all}
use Rattle.realm_snapshot.proofs.RoundTrip.{list_back}
use Rattle.realm_snapshot.proofs.writing_parts.put_ids.Goals as goal

pub returns-clause-back : goal.returns-clause-back
returns-clause-back c =
    let ids = c.args.ids.now in
    list_back eight_octets id_reading ids c.in_ok-put_count.ensures.back
    (each_all (λ x. Backs id_reading (eight_octets x) x) ids c.loop-id.id-index c.loop-id-test.false c.loop-id.invariant.1)
