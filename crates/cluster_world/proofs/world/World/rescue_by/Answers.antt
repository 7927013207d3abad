use Rattle.std.proofs.Common.{◌≡◌, ◌<◌, sym, subst, rules}
use Rattle.std.specs.Prelude.{IfOk}
use Rattle.paxos_node.specs.Events.{last_number}
use Rattle.paxos_packets.specs.Rows.{last_boot}
use Rattle.cluster_world.proofs.Refusing.{exit_last, seated}
use Rattle.cluster_world.specs.Helpers.{helpers_of, seat_at}
use Rattle.cluster_world.specs.Rescue.{HasRoom}
use Rattle.world_rescue.specs.Course.{Seat, act, seat_of, course}
use Rattle.world_rescue.specs.Parts.{crew_of}
use Rattle.cluster_world.proofs.world.World.rescue_by.Goals as goal

pub returns-clause-refused : goal.returns-clause-refused
returns-clause-refused g c = λ w p room.
    let seat : seat_of c.in-Some.own.now ≡ seat_at c.args.self.now.nodes c.args.node =
    seated c.in-Some.own.now c.args.self.now.nodes c.args.node c.in-Some.ensures.me c.in-Some.ensures.state in
    exit_last _ c.args.self.now.members c.args.node c.args.self.now.nodes w p c.events_for.result c.has_majority.result c.is_crowded.result
    c.has_majority.ensures c.if-not-has_majority.false (search rules) c.is_crowded.ensures c.if-is_crowded.false
    (λ free. c.events_for.ensures.room
    (subst (λ (s : Seat g.row.M-Body.Denot). HasRoom (crew_of c.args.self.now.members s
    (helpers_of c.args.self.now.nodes c.args.node c.args.self.now.members))) (sym seat) (room free)))

pub returns-clause-course : goal.returns-clause-course
returns-clause-course g c = λ boots acts.
    let seat : seat_of c.in-Some.own.now ≡ seat_at c.args.self.now.nodes c.args.node =
    seated c.in-Some.own.now c.args.self.now.nodes c.args.node c.in-Some.ensures.me c.in-Some.ensures.state in
    (subst (λ (s : Seat g.row.M-Body.Denot). s.node.rows.boot < last_boot → s.node.taken < last_number → IfOk c.events_for.result
    (λ events. events.items ≡ course g.M.Body.Body.same (crew_of c.args.self.now.members s
    (helpers_of c.args.self.now.nodes c.args.node c.args.self.now.members)) (act c.args.number c.args.body.now))) seat c.events_for.ensures.course) boots acts
