use Rattle.std.proofs.Common.{sym}
use Rattle.paxos_packets.proofs.Ascending.{ascends}
use Rattle.paxos_packets.proofs.Placing.{hit, miss}
use Rattle.paxos_packets.proofs.vote.find_in.Goals as goal

pub returns-in-Ok : goal.returns-in-Ok
returns-in-Ok g c =
    hit c.args.slot c.in-Ok.place c.index-votes-place.result c.args.votes.now (ascends _ c.requires) (sym c.in-Ok.ensures.which)
    c.in-Ok.ensures.found
    c.index-votes-place.is

pub returns-in-Err : goal.returns-in-Err
returns-in-Err g c = miss _ (sym c.in-Err.ensures.which)
