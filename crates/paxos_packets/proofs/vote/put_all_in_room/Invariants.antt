use Rattle.std.proofs.Common.{◌≡◌, ◌≤◌, ◌+◌, length, vec_len, vec_capacity}
use Rattle.paxos_packets.specs.Vote.{IsAscending, put_votes}
use Rattle.paxos_packets.proofs.vote.put_all_in_room.Given as goal

abbrev pub invariant-loop-vote : goal.invariant-loop-vote
invariant-loop-vote g l =
    (l.votes.items ≡ put_votes l.yielded l.fn.votes.items) × IsAscending l.votes.items
    × (vec_len l.votes + length l.fn.more.items ≤ vec_capacity l.votes + length l.yielded)
