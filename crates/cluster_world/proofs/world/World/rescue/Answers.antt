use Rattle.std.proofs.Common.{◌<◌, ◌≡◌, sym, subst, List}
use Rattle.std.specs.Prelude.{IfOk}
use Rattle.paxos_node.specs.Events.{last_number}
use Rattle.paxos_packets.specs.Rows.{last_boot}
use Rattle.paxos_planning.specs.Node.{NodeState}
use Rattle.replica_machine.specs.Log.{machine_from}
use Rattle.cluster_world.proofs.Headline.{is_told}
use Rattle.cluster_world.proofs.Refusing.{has_room, is_rescue}
use Rattle.cluster_world.specs.Helpers.{helpers_of, seat_at}
use Rattle.cluster_world.specs.Rescue.{MayBeRescued, Refuses, Rescues, rescue_refused}
use Rattle.cluster_world.specs.World.{World, node_at, played}
use Rattle.world_rescue.specs.Course.{act, course}
use Rattle.world_rescue.specs.Parts.{crew_of}
use Rattle.cluster_world.proofs.world.World.rescue.Goals as goal

pub returns-clause-refused : goal.returns-clause-refused
returns-clause-refused g c = λ first es stands.
    let w = c.args.self.now in
    let same = g.M.Body.Body.same in
    let told = is_told g.M.Machine.saved (machine_from g.M.Machine.steps first) same w.members es in
    let shown = subst (λ (v : World _). w.nodes ≡ v.nodes) told.1 stands.shows.nodes in
    subst (λ (v : World _). Refuses (rescue_refused w.members v c.args.node) c.rescue_by-done.result) (sym told.1)
    (c.rescue_by-done.ensures.refused (played same w.members told.0) shown
    (has_room same w.members told.0 c.args.node w.nodes shown c.rescues_have_room.ensures c.count.ensures.least c.count.ensures.most))

pub returns-clause-rescued : goal.returns-clause-rescued
returns-clause-rescued g c = λ first es stands.
    let w = c.args.self.now in
    let same = g.M.Body.Body.same in
    let told = is_told g.M.Machine.saved (machine_from g.M.Machine.steps first) same w.members es in
    let shown = subst (λ (v : World _). w.nodes ≡ v.nodes) told.1 stands.shows.nodes in
    subst
    (λ (v : World _). MayBeRescued (node_at v.nodes c.args.node) c.args.number
    → IfOk c.rescue_by-done.result (λ x. Rescues same w.members v c.args.node c.args.number c.args.body x.items)) (sym told.1)
    (λ may. is_rescue same w.members told.0 c.args.node c.args.number c.args.body (λ x. x.items) c.rescue_by-done.result
    c.no_dead_end.ensures c.count.ensures.least c.count.ensures.most
    (c.rescue_by-done.ensures.refused (played same w.members told.0) shown
    (has_room same w.members told.0 c.args.node w.nodes shown c.rescues_have_room.ensures c.count.ensures.least c.count.ensures.most)) may
    (subst (λ (nodes : List (NodeState _)). (node_at nodes c.args.node).rows.boot < last_boot → (node_at nodes c.args.node).taken < last_number →
    IfOk c.rescue_by-done.result (λ x. x.items ≡ course same (crew_of w.members (seat_at nodes c.args.node)
    (helpers_of nodes c.args.node w.members)) (act c.args.number c.args.body))) shown c.rescue_by-done.ensures.course))
