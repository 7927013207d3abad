use Rattle.std.proofs.lemmas.Grind.{common_steps}
use Rattle.std.proofs.Common.{◌≡◌, ◌≤◌, List, [], ◌++◌, length, sym, ap, subst, ◌∙◌, arith}
use Rattle.std.proofs.lemmas.List.{append-nil, nil_from_length}
use Rattle.std.specs.Vec.Iter.{into_iter_items}
use Rattle.paxos_packets.specs.declared.packet.Packet.{Packet}
use Rattle.world_packets.proofs.Putting.{room_for}
use Rattle.world_packets.proofs.sent.SentPackets.push_all_in_room.Goals as goal

pub loop-packet-init : goal.loop-packet-init
loop-packet-init g c =
    let all = c.into_iter-packet-iterator.ensures.into_iter_gives.0 in (
      ap (λ (ps : List (Packet g.row.B.Denot)). c.args.self.now.packets ++ ps) all,
      subst (λ (ps : List (Packet g.row.B.Denot)). length ps ≤ c.args.self.now.room) (sym all) c.requires,
    )

pub push_in_room-requires : goal.push_in_room-requires
push_in_room-requires g c =
    room_for (into_iter_items c.loop-packet.packet-iterator) (into_iter_items c.next.new.self) c.in-Some.packet c.loop-packet.self.room
    c.loop-packet.invariant.1 c.in-Some.ensures.steps.0

pub returns : goal.returns
returns g c =
    let rest : List (Packet g.row.B.Denot) = into_iter_items c.loop-packet.packet-iterator in
    let none : rest ≡ [] =
    nil_from_length rest (sym c.loop-packet.packet-iterator.rest.ok.0 ∙ c.in-None.ensures.steps.0) in
    record {
      packets = sym (append-nil c.loop-packet.self.packets) ∙ ap (λ ps. c.loop-packet.self.packets ++ ps) (sym none) ∙ c.loop-packet.invariant.0;
    }

pub loop-packet-preserved : goal.loop-packet-preserved
loop-packet-preserved g c = grind (arith, common_steps)
