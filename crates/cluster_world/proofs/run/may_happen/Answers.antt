-- By the member at the place.
use Rattle.std.proofs.Common.{◌≡◌, ◌-◌, suc, refl, sym, ap, ◌∙◌, arith, length}
use Rattle.std.proofs.lemmas.Option.{slice_get_read}
use Rattle.paxos_node.specs.Events.{owner}
use Rattle.cluster_world.specs.MemberSnapshots.{may_happen}
use Rattle.cluster_world.specs.Members.{MemberState, nodes_of}
use Rattle.cluster_world.specs.World.{node_at}
use Rattle.cluster_world.proofs.Replacing.{get_map}
use Rattle.cluster_world.proofs.Worlds.{node_of_get}
use Rattle.cluster_world.proofs.run.may_happen.Goals as goal

pub returns-in-Some : goal.returns-in-Some
returns-in-Some g c =
    let at = slice_get_read c.args.list.now (length c.args.list.now) (c.node-node.result - 1) c.in-Some.member.now refl
    c.in-Some.ensures.lookup.3.0 c.in-Some.ensures.lookup.1 in
    let number : owner c.args.event.now ≡ suc (c.node-node.result - 1) = omega (arith, c.node-node.ensures, c.if-node-eq0.false) in
    c.may.ensures
    ∙ ap (λ x. may_happen c.args.event.now x)
    (sym (ap (λ k. node_at (nodes_of c.args.list.now) k) number
    ∙ node_of_get (nodes_of c.args.list.now) (c.node-node.result - 1) c.in-Some.member.now.node
    (get_map (λ (z : MemberState _ _ _). z.node) c.args.list.now (c.node-node.result - 1) c.in-Some.member.now at)))
