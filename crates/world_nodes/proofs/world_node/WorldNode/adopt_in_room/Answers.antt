-- A node that is down then has its rows alone.
use Rattle.std.proofs.Common.{◌≡◌, sym, subst}
use Rattle.paxos_node.specs.Adopting.{adopted}
use Rattle.world_nodes.specs.Nodes.{node_in, node_of}
use Rattle.world_nodes.proofs.Planning.{fell}
use Rattle.world_nodes.proofs.world_node.WorldNode.adopt_in_room.Goals as goal

pub returns-clause-node : goal.returns-clause-node
returns-clause-node g c =
    subst (λ s. node_in c.go_down.new.status ≡ adopted s.me s.members c.args.outcome (node_of s)) c.self.view_is
    (fell c.self.inside.me c.self.inside.members c.self.inside.status c.go_down.new.status c.in-Up.node c.adopt_in_room-adopted.new.self
    c.args.outcome c.in-Up.is c.self.invariant c.adopt_in_room-adopted.ensures.state (sym c.if-is_up.ensures) c.go_down.ensures)
