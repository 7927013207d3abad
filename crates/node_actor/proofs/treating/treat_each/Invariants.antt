use Rattle.std.specs.Vec.Iter.{into_iter_items}
use Rattle.cluster_world.specs.Has.{Has}
use Rattle.paxos_packets.specs.declared.packet.Packet.{Packet}
use Rattle.paxos_node.specs.declared.event.Event.TheVariants.{Deliver}
use Rattle.actor_parts.specs.Steps.{StaysWho}
use Rattle.actor_parts.specs.Tried.{events_in}
use Rattle.mail_table.specs.Boxes.{Received}
use Rattle.mail_table.specs.Seats.{Owns}
use Rattle.node_actor.specs.Trying.{acting_before, Trying}
use Rattle.node_actor.proofs.Treated.{Leads}
use Rattle.node_actor.proofs.treating.treat_each.Given as goal

abbrev pub invariant-loop-packet : goal.invariant-loop-packet
invariant-loop-packet g l =
    Leads g.M.Body.Body.same g.M.Machine.steps g.M.Machine.content g.M.Machine.loaded g.K.Keeper.holds g.K.Keeper.finds g.K.Keeper.failures l.from
    l.fn.rest.items (events_in l.initial.staged.tried) (acting_before l.initial.parts l.initial.seat) l.initial.says.items l.initial.came
    (into_iter_items l.packet-iterator) (events_in l.staged.tried) (acting_before l.parts l.seat) l.says.items l.came
    × Trying g.M.Body.Body.same g.K.Keeper.holds g.K.Keeper.is_failed l.parts l.seat l.staged × Owns l.mail l.seat
    × StaysWho l.initial.parts l.parts
    × ((p : Packet g.row.M-Body.Denot) → Has (into_iter_items l.packet-iterator) p → Received l.seat.members l.seat.part (Deliver p))
