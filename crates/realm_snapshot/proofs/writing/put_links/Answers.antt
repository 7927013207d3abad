use Rattle.std.proofs.Common.{◌≡◌, ◌++◌, true}
use Rattle.realm_sessions.specs.declared.links.Link.{Link}
use Rattle.realm_sessions.specs.Restoring.{is_numbered}
use Rattle.realm_snapshot.specs.Writing.{link_octets, list_octets}
use Rattle.realm_snapshot.specs.Reading.{link_reading}
use Rattle.realm_snapshot.specs.Snapshot.{Backs, ReadsNoOther}
use Rattle.realm_snapshot.proofs.Listing.{put_more, each_more, each_all}
use Rattle.realm_snapshot.proofs.RoundTrip.{list_back}
use Rattle.realm_snapshot.proofs.RealmBack.{each_under}
use Rattle.realm_snapshot.proofs.Only.{list_only}
use Rattle.realm_snapshot.proofs.writing.put_links.Goals as goal

pub returns-clause-back : goal.returns-clause-back
returns-clause-back c = λ numbered.
    let links = c.args.links.now in
    list_back link_octets link_reading links c.in_ok-put_count.ensures.back
    (each_under (λ x. Backs link_reading (link_octets x) x) (λ (x : Link). is_numbered x.transport ≡ true) links
    (each_all (λ (x : Link). is_numbered x.transport ≡ true → Backs link_reading (link_octets x) x) links c.loop-link.link-index
    c.loop-link-test.false c.loop-link.invariant.1) numbered)

pub returns-clause-only : goal.returns-clause-only
returns-clause-only c =
    let links = c.args.links.now in
    list_only link_octets link_reading links c.in_ok-put_count.ensures.back
    (each_all (λ (x : Link). ReadsNoOther link_reading (link_octets x) x) links c.loop-link.link-index c.loop-link-test.false
    c.loop-link.invariant.2)

pub loop-link-preserved : goal.loop-link-preserved
loop-link-preserved c =
    let links = c.args.links.now in
    let link = c.link-item.result in (
      put_more link_octets links c.loop-link.link-index link link c.loop-link.out.items c.put_link.new.out.items
          (c.args.out.now.items ++ list_octets link_octets links) c.loop-link-test.true c.link-item.is c.in_ok-put_link.ensures.ok
          c.loop-link.invariant.0,
      each_more (λ (x : Link). is_numbered x.transport ≡ true → Backs link_reading (link_octets x) x) links c.loop-link.link-index link link
          c.loop-link-test.true c.link-item.is c.in_ok-put_link.ensures.back c.loop-link.invariant.1,
      each_more (λ (x : Link). ReadsNoOther link_reading (link_octets x) x) links c.loop-link.link-index link link
          c.loop-link-test.true c.link-item.is c.in_ok-put_link.ensures.only c.loop-link.invariant.2,
    )
