use Rattle.std.proofs.Common.{map, sym, subst}
use Rattle.std.proofs.lemmas.List.{length-map}
use Rattle.command_codec.specs.Number.{number_reading}
use Rattle.realm_snapshot.specs.Forms.{count_form}
use Rattle.realm_snapshot.specs.Writing.{eight_octets}
use Rattle.realm_snapshot.specs.Snapshot.{Backs}
use Rattle.realm_snapshot.proofs.Listing.{each_all, each_map}
use Rattle.realm_snapshot.proofs.RoundTrip.{list_back}
use Rattle.realm_snapshot.proofs.writing.put_each.Goals as goal

pub returns-clause-back : goal.returns-clause-back
returns-clause-back g c =
    let list = c.args.list.now in
    let octets = g.G.Puts.octets in
    let reading = g.G.Puts.reading in
    list_back octets reading (map (λ group. group.now) list)
    (subst (λ n. Backs (number_reading count_form) (eight_octets n) n) (sym (length-map list (λ group. group.now)))
    c.in_ok-put_count.ensures.back)
    (each_map (λ x. Backs reading (octets x) x) (λ group. group.now) list
    (each_all (λ group. Backs reading (octets group.now) group.now) list c.loop-group.group-index c.loop-group-test.false
    c.loop-group.invariant.1))
