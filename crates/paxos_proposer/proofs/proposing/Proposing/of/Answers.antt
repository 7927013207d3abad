use Rattle.std.proofs.Common.{◌≡◌, [], rules}
use Rattle.paxos_proposer.proofs.Drafting as d
use Rattle.paxos_proposer.proofs.proposing.Proposing.of.Goals as goal

pub invariant_of-result : goal.invariant_of-result
invariant_of-result g c =
    let votes : c.new-2.result.votes ≡ [] = search rules in
    let moves : c.new.result.items ≡ [] = search rules in
    d.told_first _ _ _ _ c.args.proposer.now.state votes moves c.seen.ensures c.phase.ensures.role c.phase.ensures.above
