use Rattle.std.proofs.Common.{◌∙◌, arith}
use Rattle.paxos_packets.specs.Members.{is_in}
use Rattle.paxos_proposer.proofs.Majority.{majority_with}
use Rattle.paxos_proposer.proofs.promises.is_majority_with.Goals as goal

pub returns : goal.returns
returns g c =
    λ floor votes. c.majority.ensures.value
    ∙ majority_with c.args.members c.args.node floor votes c.args.promises.now (is_in c.nodes_of-nodes.result) (is_in c.insert.new.self) (omega arith)
    c.nodes_of-nodes.ensures c.insert.ensures.meaning
