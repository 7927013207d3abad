use Rattle.std.proofs.Common.{◌≡◌, ◌<◌, length, Some, None, refl, sym, subst, arith}
use Rattle.std.proofs.lemmas.Option.{slice_get_read}
use Rattle.paxos_packets.specs.Packet.{same_packet}
use Rattle.world_packets.specs.Numbers.{numbers_of}
use Rattle.world_packets.specs.Sent.{place_in}
use Rattle.world_packets.proofs.Seeking.{any_of, one_more, passed_some, nobody, none_left}
use Rattle.world_packets.proofs.sent.seek.Goals as goal

pub returns-in_default : goal.returns-in_default
returns-in_default g c =
    let i = c.loop-ordinal.invariant in
    let none : place_in c.args.places.now.entries (numbers_of c.args.packet.now) c.loop-ordinal.ordinal ≡ None =
    subst (λ n. place_in c.args.places.now.entries n c.loop-ordinal.ordinal ≡ None) i.1 (sym c.in_default.ensures.value) in (
      nobody g.B.Body.same (record { reflexive = g.met.B.Body.reflexive; sound = g.met.B.Body.sound }) c.args.packets.now
          c.args.places.now.entries i.0 c.args.packet.now c.loop-ordinal.ordinal i.3 none,
      i.2,
      none,
      passed_some g.B.Body.same c.args.packet.now c.args.packets.now c.args.places.now.entries c.loop-ordinal.ordinal i.3,
    )

pub offset_bounds-packets-place : goal.offset_bounds-packets-place
offset_bounds-packets-place g c =
    let l = (c.loop-ordinal.invariant.0.within c.of-numbers.result c.loop-ordinal.ordinal c.in-Some.place.now (sym c.in-Some.ensures.value)).1 in
    omega arith

pub bounds-packets-place : goal.bounds-packets-place
bounds-packets-place g c =
    (c.loop-ordinal.invariant.0.within c.of-numbers.result c.loop-ordinal.ordinal c.in-Some.place.now (sym c.in-Some.ensures.value)).1

pub returns-then-same : goal.returns-then-same
returns-then-same g c =
    let l = (c.loop-ordinal.invariant.0.within c.of-numbers.result c.loop-ordinal.ordinal c.in-Some.place.now (sym c.in-Some.ensures.value)).1 in
    any_of (λ q. same_packet g.B.Body.same q c.args.packet.now) c.args.packets.now c.in-Some.place.now c.index-packets-place.result
    (slice_get_read c.args.packets.now (length c.args.packets.now) c.in-Some.place.now c.index-packets-place.result refl l c.index-packets-place.is)
    (sym c.if-same.ensures)

pub loop-ordinal-preserved : goal.loop-ordinal-preserved
loop-ordinal-preserved g c =
    let i = c.loop-ordinal.invariant in
    let l : c.in-Some.place.now < length c.args.packets.now =
    (i.0.within c.of-numbers.result c.loop-ordinal.ordinal c.in-Some.place.now (sym c.in-Some.ensures.value)).1 in (
      i.0,
      i.1,
      omega (arith, c.loop-ordinal-test.true),
      one_more g.B.Body.same c.args.packet.now c.args.packets.now c.args.places.now.entries c.loop-ordinal.ordinal i.3
          (record {
            place = c.in-Some.place.now;
            kept = subst (λ n. place_in c.args.places.now.entries n c.loop-ordinal.ordinal ≡ Some c.in-Some.place.now) i.1 (sym c.in-Some.ensures.value);
            other = c.index-packets-place.result;
            there =
                slice_get_read c.args.packets.now (length c.args.packets.now) c.in-Some.place.now c.index-packets-place.result refl l c.index-packets-place.is;
            differs = sym c.if-same.ensures;
          }),
    )

pub returns : goal.returns
returns g c =
    let i = c.loop-ordinal.invariant in
    let all : c.loop-ordinal.ordinal ≡ length c.args.packets.now = omega (arith, i.2, c.loop-ordinal-test.false) in
    let none = none_left g.B.Body.same (record { reflexive = g.met.B.Body.reflexive; sound = g.met.B.Body.sound })
    c.args.packets.now c.args.places.now.entries i.0 (numbers_of c.args.packet.now) in
    let passed = subst (λ o. Rattle.world_packets.proofs.Seeking.ArePassed g.B.Body.same c.args.packet.now c.args.packets.now
    c.args.places.now.entries o) all i.3 in (
      nobody g.B.Body.same (record { reflexive = g.met.B.Body.reflexive; sound = g.met.B.Body.sound }) c.args.packets.now c.args.places.now.entries i.0
          c.args.packet.now (length c.args.packets.now) passed none,
      omega arith,
      none,
      passed_some g.B.Body.same c.args.packet.now c.args.packets.now c.args.places.now.entries (length c.args.packets.now) passed,
    )
