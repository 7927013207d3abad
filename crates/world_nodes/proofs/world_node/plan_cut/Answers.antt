-- The node cuts exactly if the outcome commits a snapshot.
use Rattle.std.proofs.Common.{sym, ◌∙◌}
use Rattle.paxos_packets.specs.Snapshot.{snapshot_of}
use Rattle.paxos_planning.specs.Node.{log_length}
use Rattle.world_nodes.proofs.Planning.{cuts_so, cut_planned}
use Rattle.world_nodes.proofs.world_node.plan_cut.Goals as goal

pub returns-then-is_none-clause-refused : goal.returns-then-is_none-clause-refused
returns-then-is_none-clause-refused g c =
    sym (sym (cuts_so g.B.Body.same c.args.node.now.me c.args.node.now.members (log_length c.args.node.now.state) c.args.node.now.state
    c.in-Ok.outcome c.requires (snapshot_of c.args.octets.now) c.in-Ok.ensures.planned c.in-Ok.ensures.nothing) ∙ c.if-is_none.ensures)

pub returns-clause-planned : goal.returns-clause-planned
returns-clause-planned g c =
    let so = cuts_so g.B.Body.same c.args.node.now.me c.args.node.now.members (log_length c.args.node.now.state) c.args.node.now.state
    c.in-Ok.outcome c.requires (snapshot_of c.args.octets.now) c.in-Ok.ensures.planned c.in-Ok.ensures.nothing in
    cut_planned g.B.Body.same c.args.node.now.me c.args.node.now.members (log_length c.args.node.now.state) c.args.node.now.state
    c.in-Ok.outcome c.requires (snapshot_of c.args.octets.now) c.in-Ok.ensures.planned (sym so ∙ c.if-is_none.ensures)

pub returns-clause-refused : goal.returns-clause-refused
returns-clause-refused g c =
    sym (sym (cuts_so g.B.Body.same c.args.node.now.me c.args.node.now.members (log_length c.args.node.now.state) c.args.node.now.state
    c.in-Ok.outcome c.requires (snapshot_of c.args.octets.now) c.in-Ok.ensures.planned c.in-Ok.ensures.nothing) ∙ c.if-is_none.ensures)
