use Rattle.std.proofs.Common.{arith}
use Rattle.std.proofs.lemmas.Bool.{ltb-true}
use Rattle.paxos_packets.proofs.Ascending.{ascends}
use Rattle.paxos_packets.proofs.Placing.{place_last}
use Rattle.paxos_packets.proofs.vote.is_behind.Goals as goal

pub returns-in-Some : goal.returns-in-Some
returns-in-Some g c e =
    let below = ltb-true c.get.result c.args.slot e in
    place_last c.args.slot c.in-Some.last.now c.args.votes.now (ascends _ c.requires) c.in-Some.ensures.item.3.0 c.in-Some.ensures.item.1
    (omega arith)
