use Rattle.std.proofs.Common.{List, [], ◌∷◌, ◌++◌, sym, ap, subst, ◌∙◌}
use Rattle.std.specs.Prelude.{vec_len, vec_capacity}
use Rattle.indexmap.specs.IndexMap.{spare}
use Rattle.paxos_packets.specs.declared.packet.Packet.{Packet}
use Rattle.world_packets.specs.Sent.{Sent, IsIndex}
use Rattle.world_packets.proofs.Putting.{spare_for, cap_for, one_less}
use Rattle.world_packets.proofs.sent.SentPackets.push_in_room.Goals as goal

pub list-requires-clause-index : goal.list-requires-clause-index
list-requires-clause-index g c =
    subst (λ (ps : List (Packet g.row.B.Denot)). IsIndex c.self.inside.places.entries ps) (sym c.deref.ensures.value) c.self.invariant

pub list-requires-clause-spare : goal.list-requires-clause-spare
list-requires-clause-spare g c =
    spare_for (vec_capacity c.self.inside.packets) (vec_len c.self.inside.packets) (spare c.self.inside.places) c.args.self.now.room
    (ap (λ (s : Sent g.row.B.Denot). s.room) c.self.view_is) c.requires

pub push_reserved-requires : goal.push_reserved-requires
push_reserved-requires g c =
    cap_for (vec_capacity c.self.inside.packets) (vec_len c.self.inside.packets) (spare c.self.inside.places) c.args.self.now.room
    (ap (λ (s : Sent g.row.B.Denot). s.room) c.self.view_is) c.requires

pub invariant_of-self : goal.invariant_of-self
invariant_of-self g c =
    subst (λ (ps : List (Packet g.row.B.Denot)). IsIndex c.list.new.places.entries ps)
    (ap (λ (ps : List (Packet g.row.B.Denot)). ps ++ c.args.packet ∷ []) c.deref.ensures.value ∙ sym c.push_reserved.ensures.items)
    c.list.ensures.index

pub returns-clause-packets : goal.returns-clause-packets
returns-clause-packets g c =
    c.push_reserved.ensures.items ∙ ap (λ (s : Sent g.row.B.Denot). s.packets ++ c.args.packet ∷ []) c.self.view_is

pub returns-clause-room : goal.returns-clause-room
returns-clause-room g c =
    one_less (vec_capacity c.self.inside.packets) (vec_len c.self.inside.packets) (spare c.self.inside.places) c.args.self.now.room
    (vec_capacity c.push_reserved.new.self) (vec_len c.push_reserved.new.self) (spare c.list.new.places)
    (ap (λ (s : Sent g.row.B.Denot). s.room) c.self.view_is) c.push_reserved.ensures.capacity c.push_reserved.ensures.len c.list.ensures.spare
