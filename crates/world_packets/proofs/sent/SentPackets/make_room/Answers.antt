use Rattle.std.proofs.Common.{ap, ◌∙◌}
use Rattle.std.specs.Prelude.{vec_len, vec_capacity}
use Rattle.indexmap.specs.IndexMap.{spare}
use Rattle.world_packets.specs.Sent.{Sent}
use Rattle.world_packets.proofs.Putting.{index_still, room_in_both}
use Rattle.world_packets.proofs.sent.SentPackets.make_room.Goals as goal

pub invariant_of-self-in_err-reserve-2 : goal.invariant_of-self-in_err-reserve-2
invariant_of-self-in_err-reserve-2 g c =
    index_still _ _ _ _ c.in_ok-reserve.ensures.items c.in_err-reserve-2.ensures.entries c.self.invariant

pub invariant_of-self-2 : goal.invariant_of-self-2
invariant_of-self-2 g c =
    index_still _ _ _ _ c.in_ok-reserve.ensures.items c.in_ok-reserve-2.ensures.entries c.self.invariant

pub returns-clause-packets : goal.returns-clause-packets
returns-clause-packets g c = c.in_ok-reserve.ensures.items ∙ ap (λ (s : Sent g.row.B.Denot). s.packets) c.self.view_is

pub returns-in_err-reserve-2-clause-packets : goal.returns-in_err-reserve-2-clause-packets
returns-in_err-reserve-2-clause-packets g c = c.in_ok-reserve.ensures.items ∙ ap (λ (s : Sent g.row.B.Denot). s.packets) c.self.view_is

pub returns-clause-ok : goal.returns-clause-ok
returns-clause-ok g c =
    room_in_both (vec_capacity c.reserve.new.self) (vec_len c.reserve.new.self) (spare c.reserve-2.new.self) c.args.more c.in_ok-reserve.ensures.ok
    c.in_ok-reserve-2.ensures.ok
