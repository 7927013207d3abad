-- The node as it was before room was made.
use Rattle.std.proofs.Common.{ℕ, sym, ◌∙◌, subst}
use Rattle.paxos_planning.specs.Node.{NodeState}
use Rattle.paxos_node.specs.Adopting.{adopted, Fits}
use Rattle.cluster_world.proofs.cutting.rest.Goals as goal

pub adopt_in_room-packets-requires-clause-fits : goal.adopt_in_room-packets-requires-clause-fits
adopt_in_room-packets-requires-clause-fits g c =
    subst (λ (z : ℕ × ℕ × NodeState _). Fits z.0 z.1 c.args.outcome z.2)
    (λ i. (sym c.make_room.ensures.me i, sym c.make_room.ensures.members i, sym c.make_room.ensures.node i)) c.requires.fits

pub returns-clause-ok : goal.returns-clause-ok
returns-clause-ok g c =
    c.adopt_in_room-packets.ensures.node
    ∙ (λ i. adopted (c.make_room.ensures.me i) (c.make_room.ensures.members i) c.args.outcome (c.make_room.ensures.node i))
