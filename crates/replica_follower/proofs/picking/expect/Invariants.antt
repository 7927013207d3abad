use Rattle.std.proofs.Common.{◌≡◌, ◌+◌, length, drop}
use Rattle.paxos_packets.specs.declared.transport.Transport.{Transport}
use Rattle.replica_follower.specs.Handed.{said_in, room_in}
use Rattle.replica_follower.specs.Following.{said_to}
use Rattle.replica_follower.proofs.picking.expect.Given as goal

-- there will be room for the rest as for the whole
abbrev pub invariant-loop-say : goal.invariant-loop-say
invariant-loop-say g l =
    ((t : Transport) → said_in t l.handed ≡ said_in t l.initial.handed)
    × ((t : Transport) → room_in t l.handed + length (said_to g.M.Machine.steps.to t (drop l.say-index l.says))
    ≡ room_in t l.initial.handed + length (said_to g.M.Machine.steps.to t l.says))
