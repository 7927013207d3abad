use Rattle.std.proofs.Common.{◌≡◌, ◌+◌, ◌≤◌, ◌++◌, length}
use Rattle.std.specs.Vec.Iter.{into_iter_items}
use Rattle.paxos_packets.specs.declared.transport.Transport.{Transport}
use Rattle.replica_follower.specs.Handed.{said_in, room_in}
use Rattle.replica_follower.specs.Following.{said_to}
use Rattle.replica_follower.proofs.picking.hand_out.Given as goal

-- with the rest there is handed what is handed with the whole
abbrev pub invariant-loop-say : goal.invariant-loop-say
invariant-loop-say g l =
    let to = g.M.Machine.steps.to in
    ((t : Transport) → length (said_to to t (into_iter_items l.say-iterator)) ≤ room_in t l.handed)
    × ((t : Transport) → said_in t l.handed ++ said_to to t (into_iter_items l.say-iterator)
    ≡ said_in t l.initial.handed ++ said_to to t l.fn.says.items)
    × ((t : Transport) → room_in t l.handed + length (said_to to t l.fn.says.items)
    ≡ room_in t l.initial.handed + length (said_to to t (into_iter_items l.say-iterator)))
