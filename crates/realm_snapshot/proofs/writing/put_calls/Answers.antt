use Rattle.realm_snapshot.specs.Writing.{call_octets}
use Rattle.realm_snapshot.specs.Reading.{call_reading}
use Rattle.realm_snapshot.specs.Snapshot.{Backs}
use Rattle.realm_snapshot.proofs.Listing.{each_all}
use Rattle.realm_snapshot.proofs.RoundTrip.{list_back}
use Rattle.realm_snapshot.proofs.writing.put_calls.Goals as goal

pub returns-clause-back : goal.returns-clause-back
returns-clause-back c =
    let calls = c.args.calls.now in
    list_back call_octets call_reading calls c.in_ok-put_count.ensures.back
    (each_all (λ x. Backs call_reading (call_octets x) x) calls c.loop-call.call-index c.loop-call-test.false c.loop-call.invariant.1)
