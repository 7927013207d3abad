-- What is left after `retain` is what its test keeps.
use Rattle.std.proofs.Common.{rules}
use Rattle.std.proofs.lemmas.Fn.{filter_same}
use Rattle.paxos_packets.proofs.Ascending.{ascends, ascending}
use Rattle.paxos_packets.proofs.Behind.{from_ascending}
use Rattle.paxos_packets.proofs.vote.forget_in.Goals as goal

pub returns-clause-votes : goal.returns-clause-votes
returns-clause-votes g c = filter_same _ _ _ (λ x b f' k. search rules) _ _ c.retain.ensures.filtered

pub returns-clause-ascending : goal.returns-clause-ascending
returns-clause-ascending g c = rw (returns-clause-votes g c) (ascending _ (from_ascending _ c.args.votes.now.items (ascends _ c.requires)))
