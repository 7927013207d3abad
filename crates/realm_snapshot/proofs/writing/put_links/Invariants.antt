use Rattle.std.proofs.Common.{◌≡◌, ◌++◌, true, drop}
use Rattle.std.specs.List.{flat_map}
use Rattle.realm_sessions.specs.declared.links.Link.{Link}
use Rattle.realm_sessions.specs.Restoring.{is_numbered}
use Rattle.realm_snapshot.specs.Writing.{link_octets, list_octets}
use Rattle.realm_snapshot.specs.Reading.{link_reading}
use Rattle.realm_snapshot.specs.Snapshot.{Backs, ReadsNoOther}
use Rattle.realm_snapshot.proofs.RoundTrip.{Each}
use Rattle.realm_snapshot.proofs.writing.put_links.Given as goal

abbrev pub invariant-loop-link : goal.invariant-loop-link
invariant-loop-link l =
    (l.out.items ++ flat_map link_octets (drop l.link-index l.links) ≡ l.fn.out.items ++ list_octets link_octets l.links)
    × (Each (λ (x : Link). is_numbered x.transport ≡ true → Backs link_reading (link_octets x) x) (drop l.link-index l.links)
    → Each (λ (x : Link). is_numbered x.transport ≡ true → Backs link_reading (link_octets x) x) l.links)
    × (Each (λ (x : Link). ReadsNoOther link_reading (link_octets x) x) (drop l.link-index l.links)
    → Each (λ (x : Link). ReadsNoOther link_reading (link_octets x) x) l.links)
