use Rattle.std.proofs.Common.{◌∙◌}
use Rattle.paxos_planning.specs.Replies.{brings_other}
use Rattle.paxos_node.proofs.Answering.{is_brought}
use Rattle.paxos_node.proofs.node.Node.delivers_other.Goals as goal

pub returns-in_default : goal.returns-in_default
returns-in_default g c =
    c.brings_other.ensures
    ∙ (λ i. brings_other g.B.Body.same (c.parts.ensures.members i) (c.parts.ensures.me i) c.args.sender c.args.kind.now (c.parts.ensures.state i))
    ∙ is_brought g.B.Body.same c.args.self.now.members c.args.self.now.me c.args.sender c.args.kind.now c.args.self.now.state c.in_default.not-Snapshot
