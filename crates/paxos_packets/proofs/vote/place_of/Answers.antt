use Rattle.std.proofs.Common.{ltb, rules}
use Rattle.std.proofs.lemmas.List.Sorted.{IsPartitionPoint-from_clause}
use Rattle.paxos_packets.proofs.Ascending.{ascends}
use Rattle.paxos_packets.proofs.Placing.{parted, place_is}
use Rattle.paxos_packets.proofs.vote.place_of.Goals as goal

pub returns-clause-place : goal.returns-clause-place
returns-clause-place g c =
    let point =
    IsPartitionPoint-from_clause (λ v. ltb v.slot c.args.slot) _ _ c.partition_point.ensures.partitioned
    (parted c.args.slot c.args.votes.now (ascends _ c.requires)) (λ a r q k. search rules) in
    place_is c.args.slot c.args.votes.now c.partition_point.result (ascends _ c.requires) c.partition_point.ensures.bound point
