use Rattle.paxos_packets.specs.Entry.{entry_equality}
use Rattle.paxos_packets.specs.Vote.{vote_equality}
use Rattle.paxos_packets.specs.Packet.{packet_equality}
use Rattle.paxos_packets.proofs.laws.values_are_told_apart.Goals as goal

pub returns : goal.returns
returns g c = record { entries = entry_equality; votes = vote_equality; packets = packet_equality }
