-- The test of transports for equality.
use Rattle.std.specs.Prelude.{Bool, ◌&&◌, ◌==◌}
use Rattle.paxos_packets.specs.declared.transport.Transport.{Transport}

abbrev pub same_transport : Transport → Transport → Bool
same_transport a b = (a.node == b.node) && ((a.boot == b.boot) && (a.number == b.number))
